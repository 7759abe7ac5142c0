mod Commits
mod Ends
