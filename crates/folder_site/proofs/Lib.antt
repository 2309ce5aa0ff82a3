mod Drafts
mod Settles
mod Pieces
mod Images
mod Looks
mod Silent
mod Recording
mod AheadReads
mod SiteReads
mod Answering
mod ImageStays
mod DraftRecords
mod MapRecords
mod ImageRecords
mod MapReads
mod OpenRecords
pub mod Fresh
mod SiteAnswers
