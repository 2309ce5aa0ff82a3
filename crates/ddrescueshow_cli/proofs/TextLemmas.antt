-- Texts that are added one after another.
use Rattle.std.proofs.Common.{◌≡◌, ℕ, List, ◌++◌, append_assoc}

pub four : (old a b c d t1 t2 t3 t4 : List ℕ) → t1 ≡ old ++ a → t2 ≡ t1 ++ b → t3 ≡ t2 ++ c → t4 ≡ t3 ++ d
    → t4 ≡ old ++ (a ++ b ++ c ++ d)
four old a b c d t1 t2 t3 t4 e1 e2 e3 e4 = rw (e4, e3, e2, e1) (simp append_assoc)
