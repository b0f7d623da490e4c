pub mod Mix
pub mod Images
pub mod ImageLaws
