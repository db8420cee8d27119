mod Beginnings
mod IsJoinedIntoProperties
mod Places
mod IsPublishedProperties
mod Meetings
