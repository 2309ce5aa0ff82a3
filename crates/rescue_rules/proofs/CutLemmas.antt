-- A first part of calls, of which the last may have failed, and what holds at every stop within it.
use Rattle.std.specs.Bool.{⊤}
use Rattle.std.proofs.Common.{◌≡◌, ◌⊎◌, ℕ, zero, suc, ◌+◌, Bool, true, false, cond, List, [], ◌∷◌, ◌++◌, take, map, refl, sym, ap, ◌∙◌, subst, arith, inl, inr}
use Rattle.std.specs.List.{count_by, fold}
use Rattle.crash_site.specs.Calls.{Call, image_open, image_read, image_write, image_sync, map_read, draft_begin, draft_append, draft_sync, draft_publish, map_settle, map_remove, Entry, Done, Failed}
use Rattle.crash_site.specs.CallsMade.{unanswered, Lost}
use Rattle.crash_site.specs.Disk.{Disk, entered, disk_after}
use Rattle.crash_site.specs.Left.{until}
use Rattle.rescue_rules.specs.Stops.{is_settle, is_write}
use Rattle.rescue_rules.specs.StopsBy.{is_publish}

-- an entry that failed is of this call, with the answer or without it
abbrev pub IsOf : Call → Call → Type 0
IsOf c x = (x ≡ c) ⊎ (x ≡ unanswered c)

-- the record has the first of these calls, and perhaps one more that failed
abbrev pub Cut : List Call → List Entry → Type 0
Cut calls [] = ⊤
Cut [] (e ∷ es) = ⊥
Cut (c ∷ cs) (Done x ∷ es) = (x ≡ c) × Cut cs es
Cut (c ∷ cs) (Failed x steps ∷ es) = IsOf c x × (es ≡ [])

pub cut_all : (cs : List Call) → Cut cs (map Done cs)
cut_all [] = tt
cut_all (c ∷ cs) = (refl, cut_all cs)

pub cut_front : (cs more : List Call) → Cut (cs ++ more) (map Done cs)
cut_front [] more = tt
cut_front (c ∷ cs) more = (refl, cut_front cs more)

pub cut_lost : (cs : List Call) (c : Call) (steps : ℕ) (more : List Call)
    → Cut (cs ++ c ∷ more) (map Done cs ++ Failed c steps ∷ [])
cut_lost [] c steps more = (inl refl, refl)
cut_lost (x ∷ cs) c steps more = (refl, cut_lost cs c steps more)

pub cut_more : (cs more : List Call) (es : List Entry) → Cut cs es → Cut (cs ++ more) es
cut_more [] more [] h = tt
cut_more [] more (e ∷ es) h = absurd h
cut_more (c ∷ cs) more [] h = tt
cut_more (c ∷ cs) more (Done x ∷ es) h = (h.0, cut_more cs more es h.1)
cut_more (c ∷ cs) more (Failed x steps ∷ es) h = h

pub cut_past : (cs more : List Call) (es : List Entry) → Cut more es → Cut (cs ++ more) (map Done cs ++ es)
cut_past [] more es h = h
cut_past (c ∷ cs) more es h = (refl, cut_past cs more es h)

-- a call that failed after these
pub lost_cut : (cs : List Call) (c : Call) (more : List Call) (es : List Entry) → Lost c (map Done cs) es
    → Cut (cs ++ c ∷ more) es
lost_cut cs c more es (inl h) = subst (λ (l : List Entry). Cut (cs ++ c ∷ more) l) (sym h.1) (cut_lost cs c h.0 more)
lost_cut cs c more es (inr h) = subst (λ (l : List Entry). Cut (cs ++ c ∷ more) l) (sym h) (cut_front cs (c ∷ more))

-- whether an entry counts
abbrev pub add : Bool → ℕ → ℕ
add true n = suc n
add false n = n

abbrev pub tally : (Entry → Bool) → List Entry → ℕ → ℕ
tally f [] n = n
tally f (e ∷ es) n = tally f es (add (f e) n)

added : (b : Bool) (n : ℕ) → add b n ≡ n + cond b 1 0
added true n = omega arith
added false n = omega arith

tally_fold : (f : Entry → Bool) (es : List Entry) (n : ℕ)
    → tally f es n ≡ fold (λ (a : ℕ) (e : Entry). a + cond (f e) 1 0) n es
tally_fold f [] n = refl
tally_fold f (e ∷ es) n =
    tally_fold f es (add (f e) n)
    ∙ ap (λ (m : ℕ). fold (λ (a : ℕ) (x : Entry). a + cond (f x) 1 0) m es) (added (f e) n)

pub tally_is : (f : Entry → Bool) (es : List Entry) → count_by f es ≡ tally f es 0
tally_is f es = sym (tally_fold f es 0)

publish_alike : (c : Call) (steps : ℕ) → is_publish (Done c) ≡ is_publish (Failed c steps)
publish_alike (image_open name make) steps = refl
publish_alike _ steps = refl

write_alike : (c : Call) (steps : ℕ) → is_write (Done c) ≡ is_write (Failed c steps)
write_alike (image_open name make) steps = refl
write_alike _ steps = refl

-- Something holds of the disk before each of these calls, within it, after it if it failed, and after them all, by
-- how many settles had returned, and how many publishes and writes had begun.
abbrev pub Each : (ℕ → ℕ → ℕ → Disk → Type 0) → ℕ → ℕ → ℕ → Disk → List Call → Type 0
Each P r p w d [] = P r p w d
Each P r p w d (c ∷ cs) =
    P r p w d
    × ((steps : ℕ) → P r (add (is_publish (Done c)) p) (add (is_write (Done c)) w) (entered d (Failed c steps)))
    × Each P (add (is_settle (Done c)) r) (add (is_publish (Done c)) p) (add (is_write (Done c)) w)
    (entered d (Done c)) cs

pub each_first : (P : ℕ → ℕ → ℕ → Disk → Type 0) (r p w : ℕ) (d : Disk) (cs : List Call) → Each P r p w d cs → P r p w d
each_first P r p w d [] h = h
each_first P r p w d (c ∷ cs) h = h.0

at_failed : (P : ℕ → ℕ → ℕ → Disk → Type 0) (r p w : ℕ) (d : Disk) (c : Call) (steps k : ℕ)
    → P r (add (is_publish (Failed c steps)) p) (add (is_write (Failed c steps)) w) (entered d (Failed c steps))
    → P (tally is_settle (take k (Failed c steps ∷ [])) r) (tally is_publish (take (suc k) (Failed c steps ∷ [])) p)
    (tally is_write (take (suc k) (Failed c steps ∷ [])) w) (disk_after d (until k (Failed c steps ∷ [])))
at_failed P r p w d c steps zero h = h
at_failed P r p w d c steps (suc zero) h = h
at_failed P r p w d c steps (suc (suc k)) h = h

-- a call that failed does the same whether it is listed with its answer or without
pub unanswered_disk : (d : Disk) (c : Call) (steps : ℕ)
    → entered d (Failed (unanswered c) steps) ≡ entered d (Failed c steps)
unanswered_disk d (image_open name make) steps = refl
unanswered_disk d _ steps = refl

pub lost_disk : (P : Disk → Type 0) (d : Disk) (c x : Call) (steps : ℕ) → IsOf c x → P (entered d (Failed c steps))
    → P (entered d (Failed x steps))
lost_disk P d c x steps (inl is) h = subst (λ (z : Call). P (entered d (Failed z steps))) (sym is) h
lost_disk P d c x steps (inr is) h =
    subst (λ (z : Call). P (entered d (Failed z steps))) (sym is) (subst P (sym (unanswered_disk d c steps)) h)

unanswered_alike : (P : ℕ → ℕ → ℕ → Disk → Type 0) (r p w : ℕ) (d : Disk) (c : Call) (steps : ℕ)
    → P r (add (is_publish (Done c)) p) (add (is_write (Done c)) w) (entered d (Failed c steps))
    → P r (add (is_publish (Done (unanswered c))) p) (add (is_write (Done (unanswered c))) w)
    (entered d (Failed (unanswered c) steps))
unanswered_alike P r p w d (image_open name make) steps h = h
unanswered_alike P r p w d _ steps h = h

-- the call that failed is listed
at_own : (P : ℕ → ℕ → ℕ → Disk → Type 0) (r p w : ℕ) (d : Disk) (c : Call) (steps k : ℕ)
    → P r (add (is_publish (Done c)) p) (add (is_write (Done c)) w) (entered d (Failed c steps))
    → P (tally is_settle (take k (Failed c steps ∷ [])) r) (tally is_publish (take (suc k) (Failed c steps ∷ [])) p)
    (tally is_write (take (suc k) (Failed c steps ∷ [])) w) (disk_after d (until k (Failed c steps ∷ [])))
at_own P r p w d c steps k h =
    at_failed P r p w d c steps k
    (subst (λ (b : Bool). P r (add b p) (add (is_write (Failed c steps)) w) (entered d (Failed c steps)))
    (publish_alike c steps)
    (subst (λ (b : Bool). P r (add (is_publish (Done c)) p) (add b w) (entered d (Failed c steps)))
    (write_alike c steps) h))

at_lost : (P : ℕ → ℕ → ℕ → Disk → Type 0) (r p w : ℕ) (d : Disk) (c x : Call) (steps k : ℕ) → IsOf c x
    → P r (add (is_publish (Done c)) p) (add (is_write (Done c)) w) (entered d (Failed c steps))
    → P (tally is_settle (take k (Failed x steps ∷ [])) r) (tally is_publish (take (suc k) (Failed x steps ∷ [])) p)
    (tally is_write (take (suc k) (Failed x steps ∷ [])) w) (disk_after d (until k (Failed x steps ∷ [])))
at_lost P r p w d c x steps k (inl is) h =
    subst (λ (z : Call). P (tally is_settle (take k (Failed z steps ∷ [])) r)
    (tally is_publish (take (suc k) (Failed z steps ∷ [])) p)
    (tally is_write (take (suc k) (Failed z steps ∷ [])) w) (disk_after d (until k (Failed z steps ∷ [])))) (sym is)
    (at_own P r p w d c steps k h)
at_lost P r p w d c x steps k (inr is) h =
    subst (λ (z : Call). P (tally is_settle (take k (Failed z steps ∷ [])) r)
    (tally is_publish (take (suc k) (Failed z steps ∷ [])) p)
    (tally is_write (take (suc k) (Failed z steps ∷ [])) w) (disk_after d (until k (Failed z steps ∷ [])))) (sym is)
    (at_own P r p w d (unanswered c) steps k (unanswered_alike P r p w d c steps h))

-- So it holds at every stop.
pub at_stop : (P : ℕ → ℕ → ℕ → Disk → Type 0) (r p w : ℕ) (d : Disk) (cs : List Call) (es : List Entry) (k : ℕ)
    → Each P r p w d cs → Cut cs es
    → P (tally is_settle (take k es) r) (tally is_publish (take (suc k) es) p) (tally is_write (take (suc k) es) w)
    (disk_after d (until k es))
at_stop P r p w d cs [] zero h cut = each_first P r p w d cs h
at_stop P r p w d cs [] (suc k) h cut = each_first P r p w d cs h
at_stop P r p w d [] (e ∷ es) k h cut = absurd cut
at_stop P r p w d (c ∷ cs) (Done x ∷ es) zero h cut =
    subst (λ (z : Call). P r (add (is_publish (Done z)) p) (add (is_write (Done z)) w) (entered d (Failed z 0)))
    (sym cut.0) (h.1 0)
at_stop P r p w d (c ∷ cs) (Done x ∷ es) (suc k) h cut =
    subst (λ (z : Call). P (tally is_settle (take k es) (add (is_settle (Done z)) r))
    (tally is_publish (take (suc k) es) (add (is_publish (Done z)) p))
    (tally is_write (take (suc k) es) (add (is_write (Done z)) w)) (disk_after (entered d (Done z)) (until k es)))
    (sym cut.0)
    (at_stop P (add (is_settle (Done c)) r) (add (is_publish (Done c)) p) (add (is_write (Done c)) w)
    (entered d (Done c)) cs es k h.2 cut.1)
at_stop P r p w d (c ∷ cs) (Failed x steps ∷ es) k h cut =
    subst (λ (l : List Entry). P (tally is_settle (take k (Failed x steps ∷ l)) r)
    (tally is_publish (take (suc k) (Failed x steps ∷ l)) p)
    (tally is_write (take (suc k) (Failed x steps ∷ l)) w) (disk_after d (until k (Failed x steps ∷ l)))) (sym cut.1)
    (at_lost P r p w d c x steps k cut.0 (h.1 steps))
