mod Duties
mod Walking
mod Freezes
mod Withdrawals
