-- The view of a request in contracts.
use Rattle.std.specs.Prelude.{ℕ, List, Bool, codes}
use Rattle.std.specs.Str.{bytes_eq}

pub record Message : Type 0 where
  pub method : List ℕ
  -- the request target, UTF-8
  pub target : List ℕ
  pub body : List ℕ
  -- the length of the head and the body in bytes
  pub size : ℕ
  -- whether the connection is kept for another request
  pub keep : Bool

-- the request is for the head of a response alone
abbrev pub is_head : Message → Bool
is_head request = bytes_eq request.method (codes "HEAD")
