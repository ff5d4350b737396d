pub mod TokenViews
pub mod PrintedTokens
pub mod TokenCuts
pub mod Laws
pub mod ValueCalls
