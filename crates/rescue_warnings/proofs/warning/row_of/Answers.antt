-- Each row has the parts of its advice.
use Rattle.std.proofs.Common.{refl}
use Rattle.rescue_warnings.proofs.warning.row_of.Goals as goal

pub returns-in-OutfileShort-clause-text : goal.returns-in-OutfileShort-clause-text
returns-in-OutfileShort-clause-text c = λ names. rw c.in-OutfileShort.is refl

pub returns-in-MapPastInfile-clause-text : goal.returns-in-MapPastInfile-clause-text
returns-in-MapPastInfile-clause-text c = λ names. rw c.in-MapPastInfile.is refl

pub returns-in-EmptyInfile-clause-text : goal.returns-in-EmptyInfile-clause-text
returns-in-EmptyInfile-clause-text c = λ names. rw c.in-EmptyInfile.is refl

pub returns-in-BeginsPastInfile-clause-text : goal.returns-in-BeginsPastInfile-clause-text
returns-in-BeginsPastInfile-clause-text c = λ names. rw c.in-BeginsPastInfile.is refl

pub returns-in-NothingAsked-clause-text : goal.returns-in-NothingAsked-clause-text
returns-in-NothingAsked-clause-text c = λ names. rw c.in-NothingAsked.is refl

pub returns-in-NothingListed-clause-text : goal.returns-in-NothingListed-clause-text
returns-in-NothingListed-clause-text c = λ names. rw c.in-NothingListed.is refl

pub returns-in-NewMapfile-clause-text : goal.returns-in-NewMapfile-clause-text
returns-in-NewMapfile-clause-text c = λ names. rw c.in-NewMapfile.is refl

pub returns-in-LinkedMapfile-clause-text : goal.returns-in-LinkedMapfile-clause-text
returns-in-LinkedMapfile-clause-text c = λ names. rw c.in-LinkedMapfile.is refl

pub returns-in-UnsafeOutfile-clause-text : goal.returns-in-UnsafeOutfile-clause-text
returns-in-UnsafeOutfile-clause-text c = λ names. rw (c.in-UnsafeOutfile.is, ← c.storage_text.ensures.text) refl

pub returns-in-UnsafeMapfile-clause-text : goal.returns-in-UnsafeMapfile-clause-text
returns-in-UnsafeMapfile-clause-text c =
    λ names. rw (c.in-UnsafeMapfile.is, ← c.storage_text-in-UnsafeMapfile.ensures.text) refl

pub returns-in-NewOutfile-clause-text : goal.returns-in-NewOutfile-clause-text
returns-in-NewOutfile-clause-text c = λ names. rw c.in-NewOutfile.is refl

pub returns-in-NothingToFill-clause-text : goal.returns-in-NothingToFill-clause-text
returns-in-NothingToFill-clause-text c = λ names. rw c.in-NothingToFill.is refl

pub returns-in-LongPattern-clause-text : goal.returns-in-LongPattern-clause-text
returns-in-LongPattern-clause-text c = λ names. rw c.in-LongPattern.is refl

pub returns-in-OtherSector-clause-text : goal.returns-in-OtherSector-clause-text
returns-in-OtherSector-clause-text c = λ names. rw c.in-OtherSector.is refl

pub returns-in-MountedInfile-clause-text : goal.returns-in-MountedInfile-clause-text
returns-in-MountedInfile-clause-text c = λ names. rw (c.in-MountedInfile.is, ← c.mounting_text.ensures.text) refl

pub returns-in-OutfileOnDisk-clause-text : goal.returns-in-OutfileOnDisk-clause-text
returns-in-OutfileOnDisk-clause-text c = λ names. rw c.in-OutfileOnDisk.is refl

pub returns-in-MapfileOnDisk-clause-text : goal.returns-in-MapfileOnDisk-clause-text
returns-in-MapfileOnDisk-clause-text c = λ names. rw c.in-MapfileOnDisk.is refl

pub returns-in-LongPlan-clause-text : goal.returns-in-LongPlan-clause-text
returns-in-LongPlan-clause-text c = λ names. rw c.in-LongPlan.is refl

pub returns-in-NothingToCompare-clause-text : goal.returns-in-NothingToCompare-clause-text
returns-in-NothingToCompare-clause-text c = λ names. rw c.in-NothingToCompare.is refl

pub returns-in-LateMapfile-clause-text : goal.returns-in-LateMapfile-clause-text
returns-in-LateMapfile-clause-text c = λ names. rw (c.in-LateMapfile.is, ← c.stop_text.ensures.text) refl

pub returns-in-EmptyDomain-clause-text : goal.returns-in-EmptyDomain-clause-text
returns-in-EmptyDomain-clause-text c = λ names. rw c.in-EmptyDomain.is refl

pub returns-in-MapBeforeInfile-clause-text : goal.returns-in-MapBeforeInfile-clause-text
returns-in-MapBeforeInfile-clause-text c = λ names. rw c.in-MapBeforeInfile.is refl

pub returns-in-NoLength-clause-text : goal.returns-in-NoLength-clause-text
returns-in-NoLength-clause-text c = λ names. rw c.in-NoLength.is refl
