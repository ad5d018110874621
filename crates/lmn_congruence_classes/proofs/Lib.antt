pub mod ClassTables
