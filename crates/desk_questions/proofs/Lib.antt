mod Listings
mod Lines
