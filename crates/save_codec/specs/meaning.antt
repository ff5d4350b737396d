pub mod SavedTexts
pub mod ToldSorts
pub mod SavedBounds
pub mod SaveRefusals
