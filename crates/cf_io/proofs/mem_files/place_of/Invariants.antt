use Rattle.std.proofs.Common.{◌≡◌, map, drop}
use Rattle.cf_reference.specs.States.{content_of}
use Rattle.cf_io.proofs.mem_files.place_of.Given as goal

-- no file before the place has the name
abbrev pub invariant-loop-i : goal.invariant-loop-i
invariant-loop-i l =
    content_of (map (λ f. (f.0.items, f.1.items)) l.files) l.name ≡ content_of (map (λ f. (f.0.items, f.1.items)) (drop l.i l.files)) l.name
