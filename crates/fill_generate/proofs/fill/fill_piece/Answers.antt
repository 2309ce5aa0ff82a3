use Rattle.std.specs.Prelude.{⊤}
use Rattle.std.proofs.Common.{[], ◌∷◌, take, refl, ap, subst, ◌∙◌}
use Rattle.faulty_source.proofs.Keeping.{stays_self}
use Rattle.mapfile_save.proofs.FillLemmas.{keeps_more}
use Rattle.crash_site.specs.Calls.{image_write}
use Rattle.crash_site.specs.SiteChanges.{Makes}
use Rattle.sweep_rules.specs.Sweep.{filler}
use Rattle.rescue_core.proofs.ObjectLemmas.{clock_self}
use Rattle.rescue_rules.specs.Across.{no_source}
use Rattle.fill_generate.specs.SweepState.{setting_of}
use Rattle.fill_generate.proofs.PieceLemmas.{uncalled, breaks_one, makes_one, lost_write, fills_is}
use Rattle.fill_generate.proofs.OutcomeLemmas.{piece_ends, goes_after, passes_after}
use Rattle.fill_generate.proofs.fill.fill_piece.Goals as goal

pub returns-in-Err-clause-ends : goal.returns-in-Err-clause-ends
returns-in-Err-clause-ends g c types is =
    let r = c.args.sweeping.now in
    let s = setting_of r in
    let p = c.args.piece in
    let buffer = c.args.buffer.now in
    record {
      stands = refl;
      took = tt;
      passed = tt;
      halted = uncalled (λ e. ⊤) (filler s types buffer) r r p _ (image_write c.place_of-place.result (take p.len buffer)) _ _ _ _
          (fills_is r s types buffer is) c.requires.found
          (lost_write s types buffer p.pos p.len ∙ ap (λ place. image_write place (take p.len buffer)) (rw c.place_of-place.ensures refl))
          refl refl (breaks_one _ _ _ c.in-Err.ensures.lost c.in-Err.ensures.rose);
      no_draft = tt;
      draft_left = c.image_write.ensures.draft ∙ c.requires.no_draft;
      objects = record {
        source = stays_self no_source;
        site = c.image_write.ensures.keeps;
        image = c.image_write.ensures.image ∙ c.requires.image;
        clock = clock_self _;
      };
    }

pub returns-in-Ok-clause-ends : goal.returns-in-Ok-clause-ends
returns-in-Ok-clause-ends g c types is =
    let r = c.args.sweeping.now in
    let s = setting_of r in
    let p = c.args.piece in
    let buffer = c.args.buffer.now in
    let before = g.D.Site.state c.args.outside.now.site.now in
    let written = g.D.Site.state c.image_write.new.self in
    piece_ends (λ e. ⊤) (filler s types buffer) r r c.end_piece.new.self p [] p.len c.end_piece.result _ _ _ _ _ _ _
    c.image_write.ensures.keeps.tells (fills_is r s types buffer is) c.requires.found (λ t. refl) (λ t. tt) (λ t. refl)
    (λ t. refl)
    (λ t. subst (λ place. Makes (image_write place (take p.len buffer) ∷ []) before written) c.place_of-place.ensures
    (makes_one _ before written c.in-Ok.ensures.done c.in-Ok.ensures.kept))
    c.end_piece.ensures.ends c.end_piece.ensures.draft c.end_piece.ensures.draft_left (record {
      source = stays_self no_source;
      site = keeps_more _ _ _ c.image_write.ensures.keeps c.end_piece.ensures.site;
      image = c.end_piece.ensures.image ∙ c.image_write.ensures.image ∙ c.requires.image;
      clock = c.end_piece.ensures.clock;
    })

pub returns-in-Ok-clause-stands : goal.returns-in-Ok-clause-stands
returns-in-Ok-clause-stands g c = goes_after _ _ _ _ _ _ c.end_piece.ensures.ends

pub returns-in-Ok-clause-passed : goal.returns-in-Ok-clause-passed
returns-in-Ok-clause-passed g c = passes_after _ _ _ _ _ _ c.end_piece.ensures.ends

pub returns-in-Ok-clause-objects : goal.returns-in-Ok-clause-objects
returns-in-Ok-clause-objects g c = record {
  source = stays_self no_source;
  site = keeps_more _ _ _ c.image_write.ensures.keeps c.end_piece.ensures.site;
  image = c.end_piece.ensures.image ∙ c.image_write.ensures.image ∙ c.requires.image;
  clock = c.end_piece.ensures.clock;
}

pub returns-in-Err-clause-objects : goal.returns-in-Err-clause-objects
returns-in-Err-clause-objects g c = record {
  source = stays_self no_source;
  site = c.image_write.ensures.keeps;
  image = c.image_write.ensures.image ∙ c.requires.image;
  clock = clock_self _;
}
