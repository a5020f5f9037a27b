-- Reading a file to its end.
use Rattle.std.proofs.Common.{ℕ, ◌≡◌, ◌≤◌, ◌<◌, ◌-◌, true, List, [], ◌++◌, take, length, refl, sym, ◌∙◌, ap, arith, subst, Some}
use Rattle.std.specs.Prelude.{IsTrue, min}
use Rattle.std.proofs.lemmas.List.{append_assoc, append-nil, length-append, length-take-le}
use Rattle.cf_io.specs.Causes.{Rose}
use Rattle.cf_io.specs.Opening.{Opens, ReadsOn}
use Rattle.cf_io.specs.Shown.{FilesView, FilesAreTold}
use Rattle.cf_io.specs.declared.files.Opened.{Opened}
use Rattle.cf_io.specs.declared.files.Opened.TheVariants as opened
use Rattle.cf_io.specs.declared.source.Got.{Got}
use Rattle.cf_io.specs.declared.source.Got.TheVariants as got
use Rattle.cf_reference.specs.Loading.{file_limit}
use Rattle.cf_reference.specs.States.{content_of}
use Rattle.cf_session.specs.Contents.{KeepsFiles, IsLarge}

-- A front of a file was read.
pub record HasRead (before now : FilesView) (name bytes : List ℕ) : Type 0 where
  pub size : length bytes ≤ 8388609
  pub opened : now.opened ≡ true
  pub given : now.given ≡ length bytes
  pub content : FilesAreTold before → content_of before.entries name ≡ Some (bytes ++ now.left)
  pub kept : KeepsFiles before now

pub opens-kept : (old new : FilesView) (name : List ℕ) (a : Opened) → Opens old new name a → KeepsFiles old new
opens-kept old new name a o = record { entries = o.kept; misses = o.missing.later; faults = o.cause.later }

pub read-none : (old new : FilesView) (name : List ℕ) → Opens old new name opened.Opened → HasRead old new name []
read-none old new name o = record {
  size = omega arith;
  opened = o.opened;
  given = o.given;
  content = o.content;
  kept = opens-kept old new name opened.Opened o;
}

told_on : (before now : FilesView) → KeepsFiles before now → FilesAreTold before → FilesAreTold now
told_on before now k t = subst (λ b. IsTrue b) (sym k.entries.told) t

pub read-kept : (before now after : FilesView) (a : Got) (buf : List ℕ) → KeepsFiles before now → ReadsOn now after a buf
    → KeepsFiles before after
read-kept before now after a buf k r = record {
  entries = record { told = r.kept.told ∙ k.entries.told; entries = r.kept.entries ∙ k.entries.entries };
  misses = omega (arith, k.misses, r.misses);
  faults = omega (arith, k.faults, r.cause.later);
}

pub read-more : (before now after : FilesView) (name bytes next buf : List ℕ) (count room : ℕ) → HasRead before now name bytes
    → ReadsOn now after (got.Got count) buf → count ≤ room → room ≤ 8388609 - length bytes → count ≤ length buf
    → next ≡ bytes ++ take count buf → HasRead before after name next
read-more before now after name bytes next buf count room h r within left inside is =
    let many = ap length is ∙ length-append bytes (take count buf) in
    let piece = length-take-le count buf inside in
    record {
      size = omega (arith, many, piece, within, left, h.size);
      opened = r.opened;
      given = omega (arith, r.given, h.given, many, piece);
      content = λ t.
          h.content t ∙ ap (λ bs. Some (bytes ++ bs)) (r.left (told_on before now h.kept t))
          ∙ ap Some (sym (append_assoc bytes (take count buf) after.left) ∙ ap (λ bs. bs ++ after.left) (sym is));
      kept = read-kept before now after (got.Got count) buf h.kept r;
    }

pub read-end : (before now after : FilesView) (name bytes buf : List ℕ) → HasRead before now name bytes
    → ReadsOn now after got.End buf → FilesAreTold before → content_of before.entries name ≡ Some bytes
read-end before now after name bytes buf h r t =
    h.content t ∙ ap (λ bs. Some (bytes ++ bs)) (r.end (told_on before now h.kept t) refl) ∙ ap Some (append-nil bytes)

pub read-failed : (before now after : FilesView) (buf : List ℕ) → KeepsFiles before now → ReadsOn now after got.Failed buf
    → Rose before.faults after.faults
read-failed before now after buf k r = rose_earlier before.faults now.faults after.faults k.faults (r.cause.rose refl)
  where
    rose_earlier : (before now after : ℕ) → before ≤ now → Rose now after → Rose before after
    rose_earlier before now after later rose = omega (arith, later, rose)

pub read-large : (before now : FilesView) (name bytes : List ℕ) → HasRead before now name bytes → file_limit < length bytes
    → file_limit < now.given
read-large before now name bytes h large = omega (arith, h.given, large)

pub read-too-large : (before now : FilesView) (name bytes : List ℕ) → HasRead before now name bytes → file_limit < length bytes
    → FilesAreTold before → IsLarge (content_of before.entries name)
read-too-large before now name bytes h large t =
    let many = length-append bytes now.left in (bytes ++ now.left, h.content t, omega (arith, many, large))

-- fewer bytes are left that may be read
pub read-smaller : (bytes next buf : List ℕ) (count : ℕ) → length bytes ≤ 8388608 → 1 ≤ count → count ≤ length buf
    → next ≡ bytes ++ take count buf → 8388609 - length next < 8388609 - length bytes
read-smaller bytes next buf count most some inside is =
    let many = ap length is ∙ length-append bytes (take count buf) in
    let piece = length-take-le count buf inside in
    omega (arith, many, piece, most, some)

-- what is asked for at once
pub room-within : (room n all : ℕ) → room ≡ min (8388609 - n) 65536 → all ≡ 65536 → room ≤ all
room-within room n all is e = omega (arith, is, e)

pub room-left : (room n all : ℕ) → room ≡ min (8388609 - n) 65536 → n ≡ all → room ≤ 8388609 - all
room-left room n all is e = omega (arith, is, e)

-- the bytes that are taken of a buffer
pub piece-there : (count room : ℕ) (buf bytes : List ℕ) → count ≤ room → room ≤ length buf → bytes ≡ buf
    → count ≡ length (take count bytes)
piece-there count room buf bytes within inside is =
    sym (ap (λ (b : List ℕ). length (take count b)) is ∙ length-take-le count buf (omega (arith, within, inside)))
