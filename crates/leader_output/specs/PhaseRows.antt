-- What the crates above name of phase_rows, passed on.
pub use Rattle.phase_rows.specs.Orders.{is_same}
