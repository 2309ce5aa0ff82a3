use Rattle.std.proofs.Common.{sym, ◌∙◌}
use Rattle.rescue_core.proofs.running.Running.leads_up.Goals as goal

pub returns-in-Trimming-Lead : goal.returns-in-Trimming-Lead
returns-in-Trimming-Lead g c = λ is.
    let r = c.args.self.now in record {
      phase = c.in-Trimming-Lead.is-0;
      mode = c.in-Trimming-Lead.is-1;
      up = sym (c.is_up.ensures r.domain r.keeper.names r.keeper.heading.line r.phase) ∙ is;
    }
