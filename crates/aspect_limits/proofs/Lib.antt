pub mod NotedLong
