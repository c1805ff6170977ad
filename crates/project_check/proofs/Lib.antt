mod Places
mod EachSubject
mod Judged
mod Sound
mod Seen
mod Rows
