-- The user of a request: the parameter `user.name`.
use Rattle.std.specs.Prelude.{◌≡◌, ◌≢◌, ◌≤◌, ◌⊎◌, ℕ, List, [], ◌∷◌, length, codes, Result, Ok, Err, ⊤}
use Rattle.std.specs.Str.{IsUtf8}
use Rattle.path_routes.specs.declared.query.Parameter.{Parameter}
use Rattle.path_routes.specs.declared.user.UserFault.{UserFault}
use Rattle.path_routes.specs.declared.user.UserFault.TheVariants as fault
use Rattle.path_routes.specs.Queries.{values}

abbrev pub user_values : List Parameter → List (List ℕ)
user_values ps = values (codes "user.name") ps

-- UTF-8 of at most 255 bytes
abbrev pub IsUserText : List ℕ → Type 0
IsUserText user = IsUtf8 user × (length user ≤ 255)

-- The query names this user: once, by a text that is not empty and is allowed for a user. It has no `doAs`.
pub record NamesUser (ps : List Parameter) (user : List ℕ) : Type 0 where
  pub once : user_values ps ≡ user ∷ []
  pub some : user ≢ []
  pub text : IsUserText user
  pub alone : values (codes "doAs") ps ≡ []

-- `user.name` is absent, or it is given once and is empty
abbrev pub NamesNoUser : List Parameter → Type 0
NamesNoUser ps = (user_values ps ≡ []) ⊎ (user_values ps ≡ [] ∷ [])

-- the query has a `user.name`, but it is not allowed or is given twice, or `doAs` is given
abbrev pub NamesBadUser : List Parameter → Type 0
NamesBadUser ps = ¬ NamesNoUser ps × ((user : List ℕ) → ¬ NamesUser ps user)

-- what a query says about its user
abbrev pub SaysUser : List Parameter → Result (List ℕ) UserFault → Type 0
SaysUser ps (Ok user) = NamesUser ps user
SaysUser ps (Err fault.NoUser) = NamesNoUser ps
SaysUser ps (Err fault.BadRequest) = NamesBadUser ps
SaysUser ps (Err fault.NoMemory) = ⊤
