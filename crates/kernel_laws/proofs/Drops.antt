-- What stands at first, and after what was open is let go.
use Rattle.std.proofs.Common.{◌≡◌, inl, inr, ℕ, true, false, List, [], Option, None, refl, sym, ◌∙◌}
use Rattle.std.proofs.lemmas.Bool.{cases_Bool, false≢true}
use Rattle.kernel_files.specs.Volume.{Volume, Entry as Step}
use Rattle.crash_site.specs.Disk.{at_rest}
use Rattle.site_record.specs.Record.{Note}
use Rattle.kernel_laws.specs.Laws.{first_folder}
use Rattle.kernel_laws.specs.Deeds.{deeds_of, RunsTo, Suits}
use Rattle.kernel_laws.specs.Site.{Opened, Stands}
use Rattle.kernel_laws.proofs.Spares.{none_isnt}
use Rattle.kernel_laws.proofs.Calm.{rest_calm}

-- whatever is open, the calls were made in order
ran : (v : Volume) (ns : List Note) (es : List Step) (o : Opened) → Stands v ns es o → Suits v ns
    → (p : Option ℕ) × (q : Option ℕ) × RunsTo v (at_rest (first_folder v)) None None (deeds_of ns es) p q
ran v ns es o h suits =
    elim (cases_Bool o.is_dropped) [
      | inl is ↦ h.gone is suits
      | inr is ↦ (o.draft, o.image, (h.run is suits).runs)
    ]

-- anything may be let go
pub lets_go : (v : Volume) (ns : List Note) (es : List Step) (o p : Opened) → Stands v ns es o → p.is_dropped ≡ true
    → (p.is_closed ≡ false → o.is_closed ≡ false) → Stands v ns es p
lets_go v ns es o p h dropped closed = record {
  counted = h.counted;
  run = λ is suits. absurd (false≢true (sym is ∙ dropped));
  gone = λ is suits. ran v ns es o h suits;
  first = λ is. h.first (closed is);
}

pub drops : (v : Volume) (ns : List Note) (es : List Step) (o : Opened) → Stands v ns es o
    → Stands v ns es
    (record o { image = None; image_name = None; draft = None; draft_name = None; is_dropped = true })
drops v ns es o h =
    lets_go v ns es o (record o { image = None; image_name = None; draft = None; draft_name = None; is_dropped = true })
    h refl (λ is. is)

pub drops_image : (v : Volume) (ns : List Note) (es : List Step) (o : Opened) → Stands v ns es o
    → Stands v ns es (record o { image = None; image_name = None; is_dropped = true })
drops_image v ns es o h =
    lets_go v ns es o (record o { image = None; image_name = None; is_dropped = true }) h refl (λ is. is)

pub drops_draft : (v : Volume) (ns : List Note) (es : List Step) (o : Opened) → Stands v ns es o
    → Stands v ns es (record o { draft = None; draft_name = None; is_dropped = true })
drops_draft v ns es o h =
    lets_go v ns es o (record o { draft = None; draft_name = None; is_dropped = true }) h refl (λ is. is)

-- a new site, before any call
pub first_stands : (v : Volume) (o : Opened) → o.image ≡ None → o.image_name ≡ None → o.draft ≡ None
    → o.draft_name ≡ None → Stands v [] [] o
first_stands v o image image_name draft draft_name = record {
  counted = refl;
  run = λ is suits. record {
    runs = (sym draft, sym image);
    image = sym image_name;
    draft = sym draft_name;
    entry = λ has name i named at. absurd (none_isnt i (sym image ∙ at));
    firm = λ has i at. absurd (none_isnt i (sym draft ∙ at));
    lost = λ has i at. absurd (none_isnt i (sym draft ∙ at));
    calm = λ name i leads a b c. rest_calm v suits.rest i;
  };
  gone = λ is suits. (None, None, (refl, refl));
  first = λ is. refl;
}
