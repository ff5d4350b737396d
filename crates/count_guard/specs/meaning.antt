pub mod FormulaCopies
pub mod CountFormulas
pub mod DifferentLists
