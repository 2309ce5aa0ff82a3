-- Reads of maps in front of a rescue's other calls count for nothing.
use Rattle.std.proofs.Common.{◌≡◌, ℕ, Bool, false, ◌||◌, List, [], ◌∷◌, ◌++◌, map, refl, sym, ◌∙◌, ap}
use Rattle.std.specs.List.{count_by}
use Rattle.std.proofs.lemmas.List.Elements.{All-head, All-tail}
use Rattle.crash_site.specs.Calls.{Call, Entry, Done as Returned, map_read}
use Rattle.rescue_rules.specs.Work.{AreMapReads}
use Rattle.rescue_rules.specs.Stops.{is_sync, is_settle, has_barrier}
use Rattle.rescue_rules.specs.StopsBy.{is_publish}
use Rattle.rescue_rules.proofs.CutLemmas.{add, tally, tally_is}
use Rattle.program_promise.proofs.FrontLemmas.{IsMapRead}

-- a test that no such read passes
record LeavesOut (f : Entry → Bool) : Type 0 where
  each : (c : Call) → IsMapRead c → f (Returned c) ≡ false

no_sync : (c : Call) → IsMapRead c → is_sync (Returned c) ≡ false
no_sync (map_read name at size answer) is = refl
no_sync c is = absurd (cc)

no_settle : (c : Call) → IsMapRead c → is_settle (Returned c) ≡ false
no_settle (map_read name at size answer) is = refl
no_settle c is = absurd (cc)

no_publish : (c : Call) → IsMapRead c → is_publish (Returned c) ≡ false
no_publish (map_read name at size answer) is = refl
no_publish c is = absurd (cc)

tally_after : (f : Entry → Bool) (maps : List Call) (rest : List Entry) (n : ℕ) → LeavesOut f → AreMapReads maps
    → tally f (map Returned maps ++ rest) n ≡ tally f rest n
tally_after f [] rest n out reads = refl
tally_after f (c ∷ maps) rest n out reads =
    ap (λ (b : Bool). tally f (map Returned maps ++ rest) (add b n)) (out.each c (All-head IsMapRead c maps reads))
    ∙ tally_after f maps rest n out (All-tail IsMapRead c maps reads)

count_after : (f : Entry → Bool) (maps : List Call) (rest : List Entry) → LeavesOut f → AreMapReads maps
    → count_by f (map Returned maps ++ rest) ≡ count_by f rest
count_after f maps rest out reads =
    tally_is f (map Returned maps ++ rest) ∙ tally_after f maps rest 0 out reads ∙ sym (tally_is f rest)

pub settles_after : (maps : List Call) (rest : List Entry) → AreMapReads maps
    → count_by is_settle (map Returned maps ++ rest) ≡ count_by is_settle rest
settles_after maps rest reads = count_after is_settle maps rest (record { each = no_settle }) reads

pub publishes_after : (maps : List Call) (rest : List Entry) → AreMapReads maps
    → count_by is_publish (map Returned maps ++ rest) ≡ count_by is_publish rest
publishes_after maps rest reads = count_after is_publish maps rest (record { each = no_publish }) reads

pub barrier_after : (maps : List Call) (rest : List Entry) → AreMapReads maps
    → has_barrier (map Returned maps ++ rest) ≡ has_barrier rest
barrier_after [] rest reads = refl
barrier_after (c ∷ maps) rest reads =
    ap (λ (b : Bool). b || has_barrier (map Returned maps ++ rest)) (no_sync c (All-head IsMapRead c maps reads))
    ∙ barrier_after maps rest (All-tail IsMapRead c maps reads)
