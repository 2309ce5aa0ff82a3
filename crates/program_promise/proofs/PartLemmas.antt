-- Rows in which work stopped, or through which it went, in front of others.
use Rattle.std.proofs.Common.{◌≡◌, List, [], ◌∷◌, ◌++◌, map, Some, None, refl, sym, ap, ◌∙◌, inl, inr, subst, append_assoc}
use Rattle.crash_site.specs.Calls.{Entry, Done as Returned}
use Rattle.program_promise.specs.Work.{Deeds, Faults, IsIdle, WorkStep, Take, Look, Open, Make, Read, Works, with_calls}
use Rattle.program_promise.specs.Parts.{only_calls, WentThrough}
use Rattle.program_promise.specs.Holds.{after_entries}

-- what stopped in some rows stopped before all that comes after them
pub stopped_more : {E : Type 0} (f : Faults E) (rows more : List (WorkStep E)) (run : E → Deeds → Type 0) (e : E) (d : Deeds)
    → Works f rows (λ v x. ⊥) e d → Works f (rows ++ more) run e d
stopped_more f [] more run e d h = absurd h
stopped_more f (Take ∷ rows) more run e d (inl h) = inl h
stopped_more f (Take ∷ rows) more run e d (inr h) = inr (stopped_more f rows more run e d h)
stopped_more f (Look refuses ∷ rows) more run e d (inl h) = inl h
stopped_more f (Look refuses ∷ rows) more run e d (inr h) = inr (h.0, stopped_more f rows more run e d h.1)
stopped_more f (Open name ∷ rows) more run e d (inl h) = inl h
stopped_more f (Open name ∷ rows) more run e d (inr h) = inr (h.0, h.1, stopped_more f rows more run e _ h.2)
stopped_more f (Make calls ∷ rows) more run e d (inl h) = inl h
stopped_more f (Make calls ∷ rows) more run e d (inr h) = inr (h.0, h.1, stopped_more f rows more run e _ h.2)
stopped_more f (Read None file ∷ rows) more run e d (inl h) = inl h
stopped_more f (Read None file ∷ rows) more run e d (inr h) = inr (h.0, stopped_more f rows more run e d h.1)
stopped_more f (Read (Some name) file ∷ rows) more run e d (inl h) = inl h
stopped_more f (Read (Some name) file ∷ rows) more run e d (inr (inl h)) = inr (inl h)
stopped_more f (Read (Some name) file ∷ rows) more run e d (inr (inr h)) =
    inr (inr (h.0, h.1, h.2, h.3, stopped_more f rows more run e _ h.4))

-- calls after which others come
pub grown : (calls rest later front : List Entry) → calls ≡ front ++ rest → calls ++ later ≡ front ++ (rest ++ later)
grown calls rest later front is = ap (λ c. c ++ later) is ∙ append_assoc front rest later

-- calls one after another, and then others
pub grew_both : (d0 d1 d2 more : List Entry) (o l : List Entry) → d1 ≡ d0 ++ o → d2 ≡ d1 ++ l
    → d2 ++ more ≡ d0 ++ (o ++ (l ++ more))
grew_both d0 d1 d2 more o l first second =
    ap (λ r. r ++ more) second ∙ append_assoc d1 l more ∙ ap (λ r. r ++ (l ++ more)) first ∙ append_assoc d0 o (l ++ more)

-- what is done after rows that the work went through is done by all of it
pub through_then : {E : Type 0} (f : Faults E) (rows more : List (WorkStep E)) (run : E → Deeds → Type 0) (e : E)
    (calls : List Entry) (d : Deeds) → WentThrough rows calls → Works f more run e d
    → Works f (rows ++ more) run e (after_entries calls d)
through_then f [] more run e calls d t w =
    subst (λ c. Works f more run e (with_calls d (c ++ d.gain.calls))) (sym t) w
through_then f (Take ∷ rows) more run e calls d t w = inr (through_then f rows more run e calls d t w)
through_then f (Look refuses ∷ rows) more run e calls d t w =
    inr (t.0, through_then f rows more run e calls d t.1 w)
through_then f (Open name ∷ rows) more run e calls d t w = absurd t
through_then f (Make made ∷ rows) more run e calls d t w =
    inr (t.0 ++ d.gain.calls, grown calls t.0 d.gain.calls (map Returned made) t.1, through_then f rows more run e t.0 d t.2 w)
through_then f (Read None file ∷ rows) more run e calls d t w =
    inr (t.0, through_then f rows more run e calls d t.1 w)
through_then f (Read (Some name) file ∷ rows) more run e calls d t w =
    inr (inr (
      t.0,
      t.1 ++ d.gain.calls,
      t.2,
      grown calls t.1 d.gain.calls (map Returned t.0) t.3,
      through_then f rows more run e t.1 d t.4 w,
    ))

-- rows that the work went through, one after another
pub through_both : {E : Type 0} (rows more : List (WorkStep E)) (calls later : List Entry) → WentThrough rows calls
    → WentThrough more later → WentThrough (rows ++ more) (calls ++ later)
through_both [] more calls later t u = subst (λ c. WentThrough more (c ++ later)) (sym t) u
through_both (Take ∷ rows) more calls later t u = through_both rows more calls later t u
through_both (Look refuses ∷ rows) more calls later t u = (t.0, through_both rows more calls later t.1 u)
through_both (Open name ∷ rows) more calls later t u = absurd t
through_both (Make made ∷ rows) more calls later t u =
    (t.0 ++ later, grown calls t.0 later (map Returned made) t.1, through_both rows more t.0 later t.2 u)
through_both (Read None file ∷ rows) more calls later t u = (t.0, through_both rows more calls later t.1 u)
through_both (Read (Some name) file ∷ rows) more calls later t u =
    (t.0, t.1 ++ later, t.2, grown calls t.1 later (map Returned t.0) t.3, through_both rows more t.1 later t.4 u)

-- work after which another run may come as well
pub works_as : {E : Type 0} (f : Faults E) (rows : List (WorkStep E)) (run other : E → Deeds → Type 0)
    → ((e : E) (d : Deeds) → run e d → other e d) → (e : E) (d : Deeds) → Works f rows run e d → Works f rows other e d
works_as f [] run other also e d w = also e d w
works_as f (Take ∷ rows) run other also e d (inl h) = inl h
works_as f (Take ∷ rows) run other also e d (inr w) = inr (works_as f rows run other also e d w)
works_as f (Look refuses ∷ rows) run other also e d (inl h) = inl h
works_as f (Look refuses ∷ rows) run other also e d (inr h) = inr (h.0, works_as f rows run other also e d h.1)
works_as f (Open name ∷ rows) run other also e d (inl h) = inl h
works_as f (Open name ∷ rows) run other also e d (inr h) = inr (h.0, h.1, works_as f rows run other also e _ h.2)
works_as f (Make calls ∷ rows) run other also e d (inl h) = inl h
works_as f (Make calls ∷ rows) run other also e d (inr h) = inr (h.0, h.1, works_as f rows run other also e _ h.2)
works_as f (Read None file ∷ rows) run other also e d (inl h) = inl h
works_as f (Read None file ∷ rows) run other also e d (inr h) = inr (h.0, works_as f rows run other also e d h.1)
works_as f (Read (Some name) file ∷ rows) run other also e d (inl h) = inl h
works_as f (Read (Some name) file ∷ rows) run other also e d (inr (inl h)) = inr (inl h)
works_as f (Read (Some name) file ∷ rows) run other also e d (inr (inr h)) =
    inr (inr (h.0, h.1, h.2, h.3, works_as f rows run other also e _ h.4))

-- no calls are no work
pub idle : IsIdle (only_calls [])
idle = record { opens = refl; gain = record { calls = refl; reads = refl; times = refl } }

abbrev pub no_deeds : Deeds
no_deeds = record { opens = []; gain = record { calls = []; reads = []; times = [] } }
