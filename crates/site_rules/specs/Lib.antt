pub mod Asked
pub mod Origins
pub mod Rows
pub mod Rules
pub mod Suits
