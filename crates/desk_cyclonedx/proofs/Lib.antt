mod Apart
mod Placing
