mod Replies
mod Done
