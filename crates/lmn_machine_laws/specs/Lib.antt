pub mod AcceptedCode
pub mod Laws
