use Rattle.std.proofs.Common.{◌<◌, length, drop, sym, refl, ap, ◌∙◌, add_assoc, arith, length-drop, rules, true-eqb, false-eqb}
use Rattle.std.specs.Option.{ok_or}
use Rattle.fault.specs.declared.fault.FileFault.TheVariants.{BodyLength}
use Rattle.frame.specs.Format.{size}
use Rattle.frame.specs.Reading.{raw, told}
use Rattle.std.proofs.lemmas.List.{drop-drop, drop_all}
use Rattle.frame.proofs.Fronts.{rest_of, step_none, step_cut, step_whole, front_fits, told_okOr}
use Rattle.frame.proofs.reader.next.ReaderIterator.next.Goals as goal
use Rattle.std.proofs.iter.Next.{firm}

pub returns-then-is_empty : goal.returns-then-is_empty
returns-then-is_empty c =
    let s = c.args.self.now in
    let empty = rw (rest_of s.file.now s.offset) at (true-eqb _ _ c.if-is_empty.ensures) in
    record { steps = (refl, step_none s.offset (drop s.offset s.file.now) _ empty refl); goes = firm (tt) (λ h. search rules) }

pub returns-in_default : goal.returns-in_default
returns-in_default c =
    let s = c.args.self.now in
    let bytes = drop s.offset s.file.now in
    let same = rest_of s.file.now s.offset in
    let left = rw same at (false-eqb _ _ c.if-is_empty.ensures) in
    let cut = rw same at c.in_default.ensures in
    let none = drop_all (length s.file.now) s.file.now (omega arith) in
    let some : 0 < length bytes = omega (arith, left) in
    record {
      steps = (refl, step_cut s.offset bytes _ some cut none);
      goes = firm ((tt, tt, omega (arith, some, ap length none))) (λ h. search rules);
    }

pub returns : goal.returns
returns c =
    let s = c.args.self.now in
    let file = s.file.now in
    let bytes = drop s.offset file in
    let w = raw c.in-Some.frame in
    let same = rest_of file s.offset in
    let left = rw same at (false-eqb _ _ c.if-is_empty.ensures) in
    let whole = rw same at c.in-Some.ensures in
    let some : 0 < length bytes = omega (arith, left) in
    let said = ap told c.ok_or.ensures.value ∙ told_okOr c.decode.result _ ∙ ap (λ o. ok_or o (BodyLength s.offset)) c.decode.ensures in
    let behind = ap (λ k. drop k file) (add_assoc s.offset 4 (length w.body)) ∙ sym (drop-drop (size w) s.offset file) in
    let less = ap length behind ∙ length-drop (size w) bytes in
    record {
      steps = (refl, step_whole s.offset bytes _ w _ some whole said behind);
      goes = firm ((tt, tt, omega (arith, some, less, front_fits bytes w (sym whole)))) (λ h. search rules);
    }
