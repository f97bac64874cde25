pub mod Catalogues
pub mod Laws
pub mod Pages
pub mod Private
