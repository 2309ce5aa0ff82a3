-- Whether a draft is left begun after a sweep.
use Rattle.std.proofs.Common.{◌≡◌, false, List, Option, Some, None, Result, Ok, Err, OnOk, IfErr, refl, sym, ap, subst, ◌∙◌}
use Rattle.std.specs.Result.{result_err}
use Rattle.crash_site.specs.Calls.{Call}
use Rattle.crash_site.specs.SiteState.{SiteState}
use Rattle.rescue_rules.specs.declared.stop.Stop.{Stop}
use Rattle.rescue_rules.specs.declared.stop.Stop.TheVariants.{Site}
use Rattle.rescue_rules.specs.declared.stop.RunEnd.{RunEnd}
use Rattle.rescue_rules.specs.Work.{end_of}
use Rattle.rescue_core.specs.Closing.{EndsBy, MayClose, LastCalls, Saved, Unsaved, drafting_at_stop}
use Rattle.fill_generate.specs.Sweeping.{drafting_after}

stop_may_close : (stop : Stop) (site : SiteState) → site.is_drafting ≡ drafting_at_stop stop → MayClose (Some stop) site
stop_may_close (Site call) site left = tt
stop_may_close _ site left = left

left_last : (calls : List Call) (stop : Option Stop) (end : RunEnd) (site site' : SiteState)
    → drafting_after (end_of stop) ≡ false → LastCalls calls stop end site site' → site'.is_drafting ≡ drafting_after end
left_last calls stop end site site' none (Saved is makes draft) = draft ∙ sym none ∙ ap drafting_after (sym is)
left_last calls stop end site site' none (Unsaved call is named breaks left) = left ∙ ap drafting_after (sym is)

left_stopped : (calls : List Call) (stop : Stop) (end : RunEnd) (site site' : SiteState)
    → site.is_drafting ≡ drafting_at_stop stop → EndsBy calls (Some stop) end site site'
    → site'.is_drafting ≡ drafting_after end
left_stopped calls (Site call) end site site' left (is, same) =
    ap (λ (d : SiteState). d.is_drafting) same ∙ left ∙ ap drafting_after (sym is)
left_stopped calls e end site site' left closes = left_last calls (Some e) end site site' refl closes

-- After pieces with this result, which was taken for a stop: the last calls may be made,
module _ {T : Type 0} (result : Result T Stop) (stop : Option Stop) (site : SiteState) (is : stop ≡ result_err result)
    (none : OnOk result (site.is_drafting ≡ false))
    (left : IfErr result (λ stop. site.is_drafting ≡ drafting_at_stop stop)) where
  may_by : (result : Result T Stop) → OnOk result (site.is_drafting ≡ false)
      → IfErr result (λ stop. site.is_drafting ≡ drafting_at_stop stop) → MayClose (result_err result) site
  may_by (Ok v) none left = none
  may_by (Err stop) none left = stop_may_close stop site left

  pub may_close : MayClose stop site
  may_close = subst (λ (s : Option Stop). MayClose s site) (sym is) (may_by result none left)

  -- and then a draft is left as the end says
  left_by : (result : Result T Stop) (calls : List Call) (end : RunEnd) (site' : SiteState)
      → IfErr result (λ stop. site.is_drafting ≡ drafting_at_stop stop) → EndsBy calls (result_err result) end site site'
      → site'.is_drafting ≡ drafting_after end
  left_by (Ok v) calls end site' left closes = left_last calls None end site site' refl closes
  left_by (Err stop) calls end site' left closes = left_stopped calls stop end site site' left closes

  pub left_ended : (calls : List Call) (end : RunEnd) (back site' : SiteState) → site ≡ back
      → EndsBy calls stop end back site' → site'.is_drafting ≡ drafting_after end
  left_ended calls end back site' same closes =
      left_by result calls end site' left
      (subst (λ (s : Option Stop). EndsBy calls s end site site') is
      (subst (λ (d : SiteState). EndsBy calls stop end d site') (sym same) closes))
