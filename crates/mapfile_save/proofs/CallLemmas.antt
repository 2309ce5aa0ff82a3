-- Calls that were made one part after another.
use Rattle.std.proofs.Common.{◌≡◌, List, [], ◌∷◌, ◌++◌, map, sym, ap, ◌∙◌, ⊎_elim, inl, inr, append_assoc, append-nil}
use Rattle.std.proofs.lemmas.List.{map-append}
use Rattle.crash_site.specs.declared.site.SiteCall.{SiteCall}
use Rattle.crash_site.specs.Calls.{Call, Entry, Done}
use Rattle.crash_site.specs.CallsMade.{Made, BrokeAt}
use Rattle.mapfile_save.specs.Saving.{IsNameIn}

-- calls that were made, and then others
pub made_more : (old mid new : List Entry) (xs ys : List Call) → Made xs old mid → Made ys mid new → Made (xs ++ ys) old new
made_more old mid new xs ys first second =
    second ∙ ap (λ r. r ++ map Done ys) first ∙ append_assoc old (map Done xs) (map Done ys)
    ∙ ap (λ r. old ++ r) (sym (map-append Done xs ys))

-- a call that failed among the first calls failed among all of them
pub broke_front : (at : SiteCall) (xs ys : List Call) (old new : List Entry) → BrokeAt at xs old new → BrokeAt at (xs ++ ys) old new
broke_front at [] ys old new b = absurd b
broke_front at (x ∷ xs) ys old new b = ⊎_elim (λ l. inl l) (λ r. inr (broke_front at xs ys (old ++ Done x ∷ []) new r)) b

-- a call that failed after others
pub broke_back : (at : SiteCall) (xs ys : List Call) (old mid new : List Entry) → Made xs old mid
    → BrokeAt at ys mid new → BrokeAt at (xs ++ ys) old new
broke_back at [] ys old mid new m b = let e : mid ≡ old = m ∙ append-nil old in rw e at b
broke_back at (x ∷ xs) ys old mid new m b =
    inr (broke_back at xs ys (old ++ Done x ∷ []) mid new (m ∙ sym (append_assoc old (Done x ∷ []) (map Done xs))) b)

pub named_front : (at : SiteCall) (xs ys : List Call) → IsNameIn at xs → IsNameIn at (xs ++ ys)
named_front at [] ys h = absurd h
named_front at (x ∷ xs) ys h = ⊎_elim (λ l. inl l) (λ r. inr (named_front at xs ys r)) h

pub named_back : (at : SiteCall) (xs ys : List Call) → IsNameIn at ys → IsNameIn at (xs ++ ys)
named_back at [] ys h = h
named_back at (x ∷ xs) ys h = inr (named_back at xs ys h)
