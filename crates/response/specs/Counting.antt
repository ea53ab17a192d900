-- What the counting lemma assumes: releases at least a period apart, and an instance carried in that is not too old. Leans on
-- Course.
use Rattle.std.specs.Prelude.{ℕ, ◌+◌, ◌≤◌, ◌<◌, ◌≡◌, Bool, true}
use Rattle.response.specs.Course.{Course}

-- any two releases are at least P slots apart
abbrev pub Apart : (ℕ → Bool) → ℕ → Type 0
Apart released P = (q t : ℕ) → released q ≡ true → released t ≡ true → q < t → q + P ≤ t

-- a release in slot r or before it, from which less than B slots have passed
pub record Recent (released : ℕ → Bool) (B r : ℕ) : Type 0 where
  pub slot : ℕ
  pub at : released slot ≡ true
  pub past : slot ≤ r
  pub recent : r < slot + B

-- an instance that is unfinished in slot r was released less than B slots before
abbrev pub Carried : Course → ℕ → ℕ → Type 0
Carried c B r = c.done r < c.len → Recent c.released B r
