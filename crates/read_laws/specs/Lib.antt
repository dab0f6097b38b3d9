pub mod Laws
pub mod AcceptedTexts
