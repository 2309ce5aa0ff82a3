-- What a kernel tells of itself, and what a call does to that.
use Rattle.std.specs.Prelude.{◌≡◌, ◌⊎◌, ℕ, ◌+◌, ◌≤◌, Bool, IsTrue, List, [], ◌∷◌, ◌++◌, length, take, slice_range, Result, OnOk, OnErr}
use Rattle.kernel_files.specs.Volume.{Volume, Call, Entry, Done, Failed, after}

-- Whether a kernel tells, and then its files at first, and in order all calls since that may change a file's bytes or
-- where a name leads. Calls on folders, rights, owners and locks aren't listed.
pub record Told : Type 0 where
  pub tells : Bool
  pub start : Volume
  pub calls : List Entry

-- the files now
abbrev pub volume : Told → Volume
volume t = after t.start t.calls

-- One call was made. If it failed, the record says so, or nothing happened.
pub record Made {T E : Type 0} (call : Call) (result : Result T E) (old new : Told) : Type 0 where
  pub tells : new.tells ≡ old.tells
  pub start : IsTrue old.tells → new.start ≡ old.start
  pub done : OnOk result (IsTrue old.tells → new.calls ≡ old.calls ++ Done call ∷ [])
  pub failed : OnErr result (IsTrue old.tells → (new.calls ≡ old.calls ++ Failed call ∷ []) ⊎ (new.calls ≡ old.calls))

-- the bytes of an open file that tells
abbrev pub bytes_at : Told → ℕ → List ℕ
bytes_at t i = ((volume t).nodes i).bytes

-- a read at a place gives bytes that are there, and none only at their end or past it, or if none were asked for
pub record IsReadAt (bytes : List ℕ) (pos : ℕ) (buf : List ℕ) (n : ℕ) : Type 0 where
  pub came : take n buf ≡ slice_range bytes pos (pos + n)
  pub none : n ≡ 0 → (length bytes ≤ pos) ⊎ (buf ≡ [])
