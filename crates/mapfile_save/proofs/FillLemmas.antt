-- A draft is filled piece by piece.
use Rattle.std.proofs.Common.{◌≡◌, ℕ, Bool, true, IsTrue, List, [], ◌∷◌, ◌++◌, map, Ok, Err, refl, sym, subst, ap, ◌∙◌, inl, append_assoc, append-nil, arith}
use Rattle.std.proofs.lemmas.List.{map-append}
use Rattle.fault_count.specs.Counts.{raised}
use Rattle.crash_site.specs.declared.site.SiteCall.TheVariants.{DraftAppend}
use Rattle.crash_site.specs.Calls.{Call, Entry, Done, image_sync, draft_begin, draft_append}
use Rattle.crash_site.specs.CallsMade.{Made, BrokeAt}
use Rattle.crash_site.specs.SiteState.{SiteState}
use Rattle.crash_site.specs.SiteChanges.{Keeps, Answers, Stays}
use Rattle.mapfile_text.specs.Pieces.{pieces_of}
use Rattle.mapfile_save.specs.Saving.{IsNameIn, fill_calls, EndsBegun, EndsFilled, Saves}
use Rattle.mapfile_save.proofs.CallLemmas.{made_more, broke_back, named_back}

-- some pieces of the text were appended, and these bytes of it are left
pub record PartlyFilled (text left : List ℕ) (old new : SiteState) : Type 0 where
  pub went : List (List ℕ)
  pub whole : pieces_of text ≡ went ++ pieces_of left
  pub made : IsTrue old.tells → Made (map draft_append went) old.calls new.calls
  pub faults : new.faults ≡ old.faults
  pub keeps : Keeps old new
  pub image : new.is_open ≡ old.is_open
  pub drafting : new.is_drafting ≡ true

pub keeps_self : (s : SiteState) → Keeps s s
keeps_self s = record { tells = refl; start = λ t. refl; scheduled = refl; later = omega arith }

pub keeps_more : (a b c : SiteState) → Keeps a b → Keeps b c → Keeps a c
keeps_more a b c f g = record {
  tells = g.tells ∙ f.tells;
  start = λ t. g.start (subst (λ (x : Bool). IsTrue x) (sym f.tells) t) ∙ f.start t;
  scheduled = g.scheduled ∙ f.scheduled;
  later = omega (arith, f.later, g.later);
}

pub nothing_filled : (text left : List ℕ) (old : SiteState) → left ≡ text → old.is_drafting ≡ true → PartlyFilled text left old old
nothing_filled text left old all drafting = record {
  went = [];
  whole = ap pieces_of (sym all);
  made = λ t. sym (append-nil old.calls);
  faults = refl;
  keeps = keeps_self old;
  image = refl;
  drafting = drafting;
}

pub piece_filled : (text left rest out piece : List ℕ) (old mid new : SiteState) {T E : Type 0} (x : T)
    → PartlyFilled text left old mid → pieces_of left ≡ out ∷ pieces_of rest → piece ≡ out
    → Answers {E = E} (draft_append piece) (Ok x) mid new → PartlyFilled text rest old new
piece_filled text left rest out piece old mid new x f first same b =
    let next : pieces_of left ≡ piece ∷ pieces_of rest = first ∙ ap (λ p. p ∷ pieces_of rest) (sym same) in
    record {
      went = f.went ++ piece ∷ [];
      whole = f.whole ∙ ap (λ ps. f.went ++ ps) next ∙ sym (append_assoc f.went (piece ∷ []) (pieces_of rest));
      made = λ t.
          let both = made_more old.calls mid.calls new.calls (map draft_append f.went) (draft_append piece ∷ []) (f.made t)
          (b.done (subst (λ (y : Bool). IsTrue y) (sym f.keeps.tells) t))
          in
          subst (λ (cs : List Call). Made cs old.calls new.calls) (sym (map-append draft_append f.went (piece ∷ []))) both;
      faults = b.kept ∙ f.faults;
      keeps = keeps_more old mid new f.keeps b.keeps;
      image = b.image ∙ f.image;
      drafting = b.draft ∙ f.drafting;
    }

pub piece_refused : (text left rest out piece : List ℕ) (old mid new : SiteState) {T E U : Type 0} (e : E)
    → PartlyFilled text left old mid → pieces_of left ≡ out ∷ pieces_of rest → piece ≡ out → Answers {T = T} (draft_append piece) (Err e) mid new
    → Saves {T = U} (fill_calls text) true (Err (record { call = DraftAppend })) old new
piece_refused text left rest out piece old mid new e f first same b =
    let next : pieces_of left ≡ piece ∷ pieces_of rest = first ∙ ap (λ p. p ∷ pieces_of rest) (sym same) in
    let whole : map draft_append f.went ++ draft_append piece ∷ map draft_append (pieces_of rest) ≡ fill_calls text =
    sym (map-append draft_append f.went (piece ∷ pieces_of rest))
    ∙ ap (λ ps. map draft_append (f.went ++ ps)) (sym next)
    ∙ ap (map draft_append) (sym f.whole)
    in
    record {
      keeps = keeps_more old mid new f.keeps b.keeps;
      made = tt;
      broke = record {
        broke = λ t. subst (λ (cs : List Call). BrokeAt DraftAppend cs old.calls new.calls) whole
            (broke_back DraftAppend (map draft_append f.went) (draft_append piece ∷ map draft_append (pieces_of rest))
            old.calls mid.calls new.calls
            (f.made t) (inl (refl, b.lost (subst (λ (y : Bool). IsTrue y) (sym f.keeps.tells) t))));
        rose = b.rose ∙ ap raised f.faults;
      };
      named = subst (λ (cs : List Call). IsNameIn DraftAppend cs) whole
          (named_back DraftAppend (map draft_append f.went) (draft_append piece ∷ map draft_append (pieces_of rest)) (inl refl));
      image = b.image ∙ f.image;
      draft = tt;
      draft_left = b.draft ∙ f.drafting;
    }

entries_of_pieces : (ps : List (List ℕ)) → map Done (map draft_append ps) ≡ map (λ piece. Done (draft_append piece)) ps
entries_of_pieces [] = refl
entries_of_pieces (p ∷ ps) = ap (λ es. Done (draft_append p) ∷ es) (entries_of_pieces ps)

-- after a begun draft, pieces make a filled one
pub ends_filled : (ps : List (List ℕ)) (old new : List Entry) → EndsBegun old → Made (map draft_append ps) old new → EndsFilled new
ends_filled ps old new b m = record {
  before = b.before;
  draft = b.draft;
  pieces = ps;
  is = m ∙ ap (λ es. es ++ map Done (map draft_append ps)) b.is
      ∙ append_assoc b.before (Done image_sync ∷ Done (draft_begin b.draft) ∷ []) (map Done (map draft_append ps))
      ∙ ap (λ es. b.before ++ Done image_sync ∷ Done (draft_begin b.draft) ∷ es) (entries_of_pieces ps);
}

pub filled_after : (text left : List ℕ) (old new : SiteState) → PartlyFilled text left old new → IsTrue old.tells
    → EndsBegun old.calls → EndsFilled new.calls
filled_after text left old new f t b = ends_filled f.went old.calls new.calls b (f.made t)

pub site_stays : (s : SiteState) → Stays s s
site_stays s = record {
  keeps = record { tells = refl; start = λ tells. refl; scheduled = refl; later = omega arith };
  image = refl;
  draft = refl;
}
