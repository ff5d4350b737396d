pub mod Exchange
pub mod ExchangeGrowth
pub mod Files
pub mod FileCalls
