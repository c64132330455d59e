mod HeadsJoin
mod PartsJoin
