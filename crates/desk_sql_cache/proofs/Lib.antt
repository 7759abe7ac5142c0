mod Distinct
mod AdoptionLemmas
mod LastLemmas
mod Holding
mod Looks
