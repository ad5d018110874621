pub mod PairLemmas
pub mod WorkedRows
