pub mod BadPlaces
