pub mod ExchangeLaws
pub mod Exchanges
pub mod HeldBytes
pub mod Interruptions
pub mod Kept
