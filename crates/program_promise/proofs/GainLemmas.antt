-- Records of calls, taken apart where they grew.
use Rattle.std.proofs.Common.{◌≡◌, Bool, true, false, IsTrue, List, [], ◌∷◌, ◌++◌, map, refl, sym, ap, ◌∙◌, inl, inr, subst, append_assoc, append-nil}
use Rattle.crash_site.specs.declared.site.SiteCall.{SiteCall}
use Rattle.crash_site.specs.Calls.{Call, Entry, Done, Failed}
use Rattle.crash_site.specs.CallsMade.{Lost, BrokeAt}
use Rattle.mapfile_save.specs.Saving.{IsNameIn}

-- a record that grew, after other calls
pub lost_after : (c : Call) (front old new : List Entry) → Lost c old new → Lost c (front ++ old) (front ++ new)
lost_after c front old new (inl e) =
    inl (e.0, ap (λ r. front ++ r) e.1 ∙ sym (append_assoc front old (Failed c e.0 ∷ [])))
lost_after c front old new (inr e) = inr (ap (λ r. front ++ r) e)

pub broke_after : (at : SiteCall) (calls : List Call) (front old new : List Entry) → BrokeAt at calls old new
    → BrokeAt at calls (front ++ old) (front ++ new)
broke_after at [] front old new b = absurd b
broke_after at (c ∷ cs) front old new (inl l) = inl (l.0, lost_after c front old new l.1)
broke_after at (c ∷ cs) front old new (inr b) =
    let P : List Entry → Type 0 = λ r. BrokeAt at cs r (front ++ new) in
    inr (subst P (sym (append_assoc front old (Done c ∷ []))) (broke_after at cs front (old ++ Done c ∷ []) new b))

-- what a record gained with a call that failed
pub record GainsBroken (at : SiteCall) (calls : List Call) (old new : List Entry) : Type 0 where
  pub more : List Entry
  pub grew : new ≡ old ++ more
  pub broke : BrokeAt at calls [] more

pub broke_gains : (at : SiteCall) (calls : List Call) (old new : List Entry) → BrokeAt at calls old new → GainsBroken at calls old new
broke_gains at [] old new b = absurd b
broke_gains at (c ∷ cs) old new (inl (name, inl e)) =
    record { more = Failed c e.0 ∷ []; grew = e.1; broke = inl (name, inl (e.0, refl)) }
broke_gains at (c ∷ cs) old new (inl (name, inr e)) = record { more = []; grew = e ∙ sym (append-nil old); broke = inl (name, inr refl) }
broke_gains at (c ∷ cs) old new (inr b) =
    let rest : GainsBroken at cs (old ++ Done c ∷ []) new = broke_gains at cs (old ++ Done c ∷ []) new b in
    record {
      more = Done c ∷ rest.more;
      grew = rest.grew ∙ append_assoc old (Done c ∷ []) rest.more;
      broke = inr (broke_after at cs (Done c ∷ []) [] rest.more rest.broke);
    }

-- calls that broke after others that returned, of which none has the name of the one that failed
pub broke_past : (at : SiteCall) (front calls : List Call) (old new : List Entry) → (IsNameIn at front → ⊥)
    → BrokeAt at (front ++ calls) old new → BrokeAt at calls (old ++ map Done front) new
broke_past at [] calls old new other b = subst (λ r. BrokeAt at calls r new) (sym (append-nil old)) b
broke_past at (c ∷ cs) calls old new other (inl b) = absurd (other (inl b.0))
broke_past at (c ∷ cs) calls old new other (inr b) =
    subst (λ r. BrokeAt at calls r new) (append_assoc old (Done c ∷ []) (map Done cs))
    (broke_past at cs calls (old ++ Done c ∷ []) new (λ named. other (inr named)) b)

-- there are calls of which one failed that has this name
pub broke_there : (at : SiteCall) (calls : List Call) (old : List Entry) → IsNameIn at calls
    → (new : List Entry) × BrokeAt at calls old new
broke_there at [] old named = absurd named
broke_there at (c ∷ cs) old (inl is) = (old ++ Failed c 0 ∷ [], inl (is, inl (0, refl)))
broke_there at (c ∷ cs) old (inr named) =
    let rest = broke_there at cs (old ++ Done c ∷ []) named in (rest.0, inr rest.1)

-- what a record gained with a call that failed, if it is told; else what it may have gained
pub record MayGain (tells : Bool) (at : SiteCall) (calls : List Call) (old new : List Entry) : Type 0 where
  pub more : List Entry
  pub grew : IsTrue tells → new ≡ old ++ more
  pub broke : BrokeAt at calls [] more

pub may_gain : (tells : Bool) (at : SiteCall) (calls : List Call) (old new : List Entry) → IsNameIn at calls
    → (IsTrue tells → BrokeAt at calls old new) → MayGain tells at calls old new
may_gain true at calls old new named told =
    let g : GainsBroken at calls old new = broke_gains at calls old new (told refl) in
    record { more = g.more; grew = λ tells. g.grew; broke = g.broke }
may_gain false at calls old new named told =
    let new = broke_there at calls [] named in
    record { more = new.0; grew = λ tells. absurd (cc); broke = new.1 }

-- the call that failed is one of those
pub broke_named : (at : SiteCall) (calls : List Call) (old new : List Entry) → BrokeAt at calls old new → IsNameIn at calls
broke_named at [] old new broke = absurd broke
broke_named at (c ∷ cs) old new (inl (is, lost)) = inl is
broke_named at (c ∷ cs) old new (inr broke) = inr (broke_named at cs (old ++ Done c ∷ []) new broke)
