-- What a search in a list of blocks finds: a stretch, the first or the last position of a status, and a count.
use Rattle.std.proofs.Common.{◌≡◌, ℕ, ◌+◌, ◌-◌, ◌*◌, ◌<◌, ◌≤◌, List, [], ◌∷◌, ◌++◌, length, take, get_or, replicate, Option, Some, None, IfSome, IfNone, Bool, true, false, cond, append-nil, max, min, arith, ap, sym, ◌∙◌, ⊎_elim, refl}
use Rattle.std.specs.List.{flat_map, count_by}
use Rattle.std.proofs.lemmas.Bool.{cases_lt}
use Rattle.std.proofs.lemmas.List.{take_more, take_all}
use Rattle.std.proofs.lemmas.List.Folds.{sum_by-replicate}
use Rattle.std.proofs.lemmas.List.Sums.{count_by-le-length, sum_by-append}
use Rattle.std.proofs.lemmas.Option.{slice_get_read, slice_get_within}
use Rattle.block_list.specs.declared.status.Status.{Status}
use Rattle.block_list.specs.declared.block.Block.{Block}
use Rattle.block_list.specs.declared.block.Range.{Range}
use Rattle.block_list.specs.Status.{same}
use Rattle.block_list.specs.Map.{Has}
use Rattle.block_list.specs.Places.{IsFirst, IsLast, IsRangeUp, IsRangeDown}
use Rattle.block_list.specs.Stretches.{covered, IsStretch, IsStretchAt}
use Rattle.block_list.specs.Tiling.{IsMerged}
use Rattle.block_list.specs.Edits.{IsTiled, IsPlace, start_of}
use Rattle.block_list.proofs.TileLemmas.{covered-append, tile_read, index_before, start_all, start_le_end}
use Rattle.block_list.proofs.ApartLemmas.{apart_from_merged}
use Rattle.block_list.proofs.StretchLemmas.{stretch_at, same_self, other_same}

-- no position from one place up to another has the status
pub record IsClear (map : List Status) (s : Status) (from to : ℕ) : Type 0 where
  pub clear : (x : ℕ) → from ≤ x → x < to → Has map s x → ⊥

-- a block that was read is a maximal stretch
pub stretch_read : (bs : List Block) (i : ℕ) (b : Block) → IsTiled bs → IsMerged bs → i < length bs → b ≡ get_or bs i b
    → IsStretch (flat_map covered bs) b
stretch_read bs i b t m h e =
    stretch_at bs (length (flat_map covered bs)) i b t.tiled (apart_from_merged bs m) (slice_get_read bs (length bs) i b refl h e)

-- the last block that begins at or before a position is the stretch that holds it
pub stretch_held : (bs : List Block) (x i : ℕ) (b : Block) → IsTiled bs → IsMerged bs → IsPlace bs (x + 1) i
    → b ≡ get_or bs (i - 1) b → IsStretchAt (flat_map covered bs) x b
stretch_held bs x i b t m p q =
    let z : 0 < i = index_before bs 0 i (omega (arith, p.reaches)) in
    let k : ℕ = i - 1 in
    let h : k < length bs = omega (arith, p.index) in
    let r = tile_read bs k b t h q in
    let e : k + 1 ≡ i = omega arith in
    record {
      stretch = stretch_read bs k b t m h q;
      begun = omega (arith, r.begins, p.before z);
      holds = omega (arith, r.ends, p.reaches, ap (λ n. start_of bs n) e);
    }

-- a block that holds a position is the last one that begins at or before it
pub place_held : (bs : List Block) (i x : ℕ) (b : Block) → IsTiled bs → i < length bs → b ≡ get_or bs i b → b.pos ≤ x
    → x - b.pos < b.size → IsPlace bs (x + 1) (i + 1)
place_held bs i x b t h q l u =
    let r = tile_read bs i b t h q in
    let e : i + 1 - 1 ≡ i = omega arith in
    record {
      index = omega arith;
      before = λ z. omega (arith, r.begins, ap (λ n. start_of bs n) e);
      reaches = omega (arith, r.ends);
    }

other_status : (map : List Status) (s z : Status) (x : ℕ) → Has map s x → Has map z x → (z ≡ s → ⊥) → ⊥
other_status map s z x h k o = o (cc)

-- a block of another status, from its position on
other_block : (map : List Status) (s : Status) (b : Block) (x : ℕ) → IsStretch map b → (b.status ≡ s → ⊥) → b.pos ≤ x
    → x < b.pos + b.size → Has map s x → ⊥
other_block map s b x k o l u h = other_status map s b.status x h (k.has x l u) o

pub clear_after : (bs : List Block) (i from : ℕ) (s : Status) (b : Block) → IsTiled bs → IsMerged bs → i < length bs
    → b ≡ get_or bs i b → (b.status ≡ s → ⊥) → IsClear (flat_map covered bs) s from (start_of bs i)
    → IsClear (flat_map covered bs) s from (start_of bs (i + 1))
clear_after bs i from s b t m h e o c =
    let r = tile_read bs i b t h e in
    record {
      clear = λ x l u k. ⊎_elim (λ (v : x < start_of bs i). c.clear x l v k)
          (λ (v : start_of bs i ≤ x). other_block _ s b x (stretch_read bs i b t m h e) o (omega (arith, r.begins))
          (omega (arith, r.ends)) k) (cases_lt x (start_of bs i));
    }

pub clear_before : (bs : List Block) (i to : ℕ) (s : Status) (b : Block) → IsTiled bs → IsMerged bs → i < length bs
    → b ≡ get_or bs i b → (b.status ≡ s → ⊥) → IsClear (flat_map covered bs) s (start_of bs (i + 1)) to
    → IsClear (flat_map covered bs) s (start_of bs i) to
clear_before bs i to s b t m h e o c =
    let r = tile_read bs i b t h e in
    record {
      clear = λ x l u k. ⊎_elim (λ (v : x < start_of bs (i + 1)).
          other_block _ s b x (stretch_read bs i b t m h e) o (omega (arith, r.begins)) (omega (arith, r.ends)) k)
          (λ (v : start_of bs (i + 1) ≤ x). c.clear x v u k) (cases_lt x (start_of bs (i + 1)));
    }

-- all blocks were passed
pub clear_up : (bs : List Block) (i from : ℕ) (s : Status) → length bs ≤ i
    → IsClear (flat_map covered bs) s from (start_of bs i) → (x : ℕ) → from ≤ x → Has (flat_map covered bs) s x → ⊥
clear_up bs i from s h c x l k =
    c.clear x l (omega (arith, start_all bs i h, slice_get_within (flat_map covered bs) x s k)) k

pub found_first : (bs : List Block) (i from : ℕ) (s : Status) (b : Block) → IsTiled bs → IsMerged bs → i < length bs
    → b ≡ get_or bs i b → IsClear (flat_map covered bs) s from (start_of bs i) → from < start_of bs (i + 1)
    → b.status ≡ s → IsFirst (Has (flat_map covered bs) s) from (max from b.pos)
found_first bs i from s b t m h e c u q =
    let r = tile_read bs i b t h e in
    let k = stretch_read bs i b t m h e in
    record {
      after = omega arith;
      holds = k.has (max from b.pos) (omega arith) (omega (arith, r.ends, r.sized)) ∙ ap Some q;
      least = λ y l v.
          ⊎_elim (λ (o : y < b.pos). absurd (c.clear y l (omega (arith, r.begins)) v)) (λ (o : b.pos ≤ y). omega arith) (cases_lt y b.pos);
    }

pub found_range_up : (bs : List Block) (i from : ℕ) (s : Status) (b : Block) → IsTiled bs → IsMerged bs → i < length bs
    → b ≡ get_or bs i b → from < start_of bs (i + 1) → b.status ≡ s
    → IsRangeUp (Has (flat_map covered bs) s) (max from b.pos) (b.pos + b.size)
found_range_up bs i from s b t m h e u q =
    let r = tile_read bs i b t h e in
    let k = stretch_read bs i b t m h e in
    record {
      begun = omega (arith, r.ends, r.sized);
      within = λ y l v. k.has y (omega arith) v ∙ ap Some q;
      stops = λ v. k.stops (v ∙ ap Some (sym q));
    }

pub found_last : (bs : List Block) (i before : ℕ) (s : Status) (b : Block) → IsTiled bs → IsMerged bs → i < length bs
    → b ≡ get_or bs i b → IsClear (flat_map covered bs) s (start_of bs (i + 1)) before → start_of bs i < before
    → b.status ≡ s → IsLast (Has (flat_map covered bs) s) before (min before (b.pos + b.size))
found_last bs i before s b t m h e c u q =
    let r = tile_read bs i b t h e in
    let k = stretch_read bs i b t m h e in
    record {
      below = omega arith;
      some = omega (arith, r.sized);
      holds = k.has (min before (b.pos + b.size) - 1) (omega (arith, r.begins, r.sized)) (omega (arith, r.sized)) ∙ ap Some q;
      greatest = λ y l v. ⊎_elim (λ (o : y < b.pos + b.size). omega arith)
          (λ (o : b.pos + b.size ≤ y). absurd (c.clear y (omega (arith, r.ends)) l v)) (cases_lt y (b.pos + b.size));
    }

pub found_range_down : (bs : List Block) (i before : ℕ) (s : Status) (b : Block) → IsTiled bs → IsMerged bs
    → i < length bs → b ≡ get_or bs i b → start_of bs i < before → b.status ≡ s
    → IsRangeDown (Has (flat_map covered bs) s) b.pos (min before (b.pos + b.size))
found_range_down bs i before s b t m h e u q =
    let r = tile_read bs i b t h e in
    let k = stretch_read bs i b t m h e in
    record {
      begun = omega (arith, r.begins, r.sized);
      within = λ y l v. k.has y l (omega arith) ∙ ap Some q;
      stops = λ y z v. k.starts y z (v ∙ ap Some (sym q));
    }

-- a place past the map's end is as good as the end
pub last_within : (map : List Status) (s : Status) (before end : ℕ) → IsLast (Has map s) (min before (length map)) end
    → IsLast (Has map s) before end
last_within map s before end k = record {
  below = omega (arith, k.below);
  some = k.some;
  holds = k.holds;
  greatest = λ y l v. k.greatest y (omega (arith, slice_get_within map y s v)) v;
}

-- a place past the map's end, whatever was found
pub last_of : (map : List Status) (s : Status) (before : ℕ) (r : Option Range)
    → IfSome r (λ range. IsLast (Has map s) (min before (length map)) range.to)
    → IfSome r (λ range. IsLast (Has map s) before range.to)
last_of map s before None h = h
last_of map s before (Some range) h = last_within map s before range.to h

pub none_of : (map : List Status) (s : Status) (before : ℕ) (r : Option Range)
    → IfNone r ((x : ℕ) → x < min before (length map) → Has map s x → ⊥)
    → IfNone r ((x : ℕ) → x < before → Has map s x → ⊥)
none_of map s before None h = λ x l v. h x (omega (arith, slice_get_within map x s v)) v
none_of map s before (Some range) h = h

-- counts of a list's parts
count-append : (p : Status → Bool) (xs ys : List Status) → count_by p (xs ++ ys) ≡ count_by p xs + count_by p ys
count-append p xs ys = sum_by-append (λ x. cond (p x) 1 0) xs ys

count-yes : (p : Status → Bool) (n : ℕ) (z : Status) → p z ≡ true → count_by p (replicate n z) ≡ n
count-yes p n z h = let k = sum_by-replicate (λ x. cond (p x) 1 0) n z in k ∙ ap (λ b. n * cond b 1 0) h ∙ omega arith

count-no : (p : Status → Bool) (n : ℕ) (z : Status) → p z ≡ false → count_by p (replicate n z) ≡ 0
count-no p n z h = let k = sum_by-replicate (λ x. cond (p x) 1 0) n z in k ∙ ap (λ b. n * cond b 1 0) h ∙ omega arith

-- how many positions of the first blocks have a status
abbrev pub counted : List Block → Status → ℕ → ℕ
counted bs s i = count_by (λ z. same z s) (flat_map covered (take i bs))

counted_more : (bs : List Block) (i : ℕ) (s : Status) (d : Block) → i < length bs
    → counted bs s (i + 1) ≡ counted bs s i + count_by (λ z. same z s) (covered (get_or bs i d))
counted_more bs i s d h =
    ap (λ r. count_by (λ z. same z s) (flat_map covered r)) (take_more bs i d h)
    ∙ ap (λ r. count_by (λ z. same z s) r) (covered-append (take i bs) (get_or bs i d ∷ [])
    ∙ ap (λ r. flat_map covered (take i bs) ++ r) (append-nil (covered (get_or bs i d))))
    ∙ count-append (λ z. same z s) (flat_map covered (take i bs)) (covered (get_or bs i d))

pub counted_yes : (bs : List Block) (i : ℕ) (s : Status) (d : Block) → i < length bs → (get_or bs i d).status ≡ s
    → counted bs s (i + 1) ≡ counted bs s i + (get_or bs i d).size
counted_yes bs i s d h e =
    let z : same (get_or bs i d).status s ≡ true = rw e (same_self s) in
    omega (arith, counted_more bs i s d h, count-yes (λ z. same z s) (get_or bs i d).size (get_or bs i d).status z)

pub counted_no : (bs : List Block) (i : ℕ) (s : Status) (d : Block) → i < length bs → ((get_or bs i d).status ≡ s → ⊥)
    → counted bs s (i + 1) ≡ counted bs s i
counted_no bs i s d h e =
    omega (
      arith,
      counted_more bs i s d h,
      count-no (λ z. same z s) (get_or bs i d).size (get_or bs i d).status
          (other_same (get_or bs i d).status s e),
    )

pub counted_all : (bs : List Block) (i : ℕ) (s : Status) → length bs ≤ i
    → counted bs s i ≡ count_by (λ z. same z s) (flat_map covered bs)
counted_all bs i s h = ap (λ r. count_by (λ z. same z s) (flat_map covered r)) (take_all i bs h)

pub counted_end : (bs : List Block) (i : ℕ) (s : Status) → counted bs s i ≤ length (flat_map covered bs)
counted_end bs i s = omega (arith, count_by-le-length (λ z. same z s) (flat_map covered (take i bs)), start_le_end bs i)
