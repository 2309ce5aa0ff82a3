-- ddrescueplan_cli cites this.
pub mod PutLemmas
mod SimilarLemmas
mod PlanLemmas
mod BegunLemmas
mod RunLemmas
mod ExistLemmas
mod NeedLemmas
