pub mod Elab
pub mod PolicyRefusals
