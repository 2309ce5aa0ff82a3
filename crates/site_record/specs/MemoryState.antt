-- What a recorder in memory tells. For contracts and proofs: no promise uses it.
use Rattle.site_record.specs.declared.memory.MemoryRecorder.{MemoryRecorder}
use Rattle.site_record.specs.Record.{Noted}
use Rattle.site_record.specs.Memory.{noted_of}

abbrev pub told_by : MemoryRecorder → Noted
told_by r = noted_of r.listed.items r.begun
