-- The rows in which cells lie.
pub use Rattle.lmn_web_rows.specs.Rows.{Item, blank, link, number, halves, numbered, NUMBER_WORD, halves_in, with_half, half_at, with_half_at, Row, items_in, with_items, place_of, place_ptr, IsStart, IsNear, leads_nowhere}
