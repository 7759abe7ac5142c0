mod Names
mod Places
