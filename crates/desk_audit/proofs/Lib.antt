pub mod Firsts
mod Forming
mod Judging
mod Ruled
mod OwedOrders
