-- Which errors of a read are the medium's. For contracts and proofs: no promise uses it.
use Rattle.std.specs.Prelude.{ℤ, pos, negsuc, Bool, false, ◌==◌, ◌||◌, ◌&&◌, Option, Some, None}

-- through the kernel's cache: EIO, ENODATA, EILSEQ, ETIMEDOUT or EREMOTEIO
abbrev pub is_cached_code : Option ℤ → Bool
is_cached_code None = false
is_cached_code (Some (negsuc n)) = false
is_cached_code (Some (pos n)) = n == 5 || n == 61 || n == 84 || n == 110 || n == 121

-- a driver's own, which the cache turns into EIO: EBUSY, ENOSPC, EBADE, ETIME, ENOLINK or EOPNOTSUPP
abbrev pub is_driver_code : Option ℤ → Bool
is_driver_code None = false
is_driver_code (Some (negsuc n)) = false
is_driver_code (Some (pos n)) = n == 16 || n == 28 || n == 52 || n == 62 || n == 67 || n == 95

-- the kernel's number is one of these, of a driver's only if the read went past the cache
abbrev pub is_medium_code : Bool → Option ℤ → Bool
is_medium_code is_direct code = is_cached_code code || (is_direct && is_driver_code code)
