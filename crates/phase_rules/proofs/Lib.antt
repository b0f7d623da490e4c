pub mod Distrust
