-- The numbers of devices, and which states of a disk are lost. For contracts and proofs: no promise uses it.
use Rattle.std.specs.Prelude.{ℕ, ◌+◌, ◌*◌, ◌/◌, ◌%◌, ◌^◌, Bool, ◌||◌, List, codes, bytes_eq}

-- the parts of a device's number, as the C library keeps it
abbrev pub major_of : ℕ → ℕ
major_of number = number / 256 % 2 ^ 12

abbrev pub minor_of : ℕ → ℕ
minor_of number = number / 2 ^ 20 * 256 + number % 256

-- a disk that is offline or removed, in the words of SCSI
abbrev pub is_offline_state : List ℕ → Bool
is_offline_state state = bytes_eq state (codes "offline") || bytes_eq state (codes "transport-offline")
    || bytes_eq state (codes "cancel") || bytes_eq state (codes "deleted")

-- a controller that is given up, in the words of NVMe
abbrev pub is_given_up_state : List ℕ → Bool
is_given_up_state state = bytes_eq state (codes "dead") || bytes_eq state (codes "deleting")
    || bytes_eq state (codes "deleting (no IO)")

-- a disk that answers no more is in one of these states
abbrev pub is_lost_state : List ℕ → Bool
is_lost_state state = is_offline_state state || is_given_up_state state
