mod Numbers
mod Keeping
mod Taking
mod Telling
mod Sparing
