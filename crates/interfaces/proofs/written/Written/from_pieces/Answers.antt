-- Two writes over zeros, where the pieces fit. Assumes the contract of `put`.
use Rattle.std.proofs.Common.{[], ◌++◌, take, drop, refl, ap, ◌∙◌, arith, length-append}
use Rattle.interfaces.proofs.Zeros.{put_more, take_padding, drop_padding, pieces_some, pieces_none}
use Rattle.interfaces.proofs.written.Written.from_pieces.Goals as goal
use Rattle.interfaces.proofs.written.Written.from_pieces.Goals.{then-front-gt-WRITTEN-via-then-front-gt-WRITTEN, then-front-gt-WRITTEN-via-else-front-gt-WRITTEN+then-rest-front}

pub returns-then-front-gt-WRITTEN : goal.returns-then-front-gt-WRITTEN
returns-then-front-gt-WRITTEN c =
    pieces_none c.args.front.now c.args.rest.now
    (elim c.then-front-gt-WRITTEN.branch [
      | then-front-gt-WRITTEN-via-then-front-gt-WRITTEN w ↦ omega arith
      | then-front-gt-WRITTEN-via-else-front-gt-WRITTEN+then-rest-front w ↦ omega arith
    ])

pub invariant_of-result : goal.invariant_of-result
invariant_of-result c =
    let front = c.args.front.now in
    let rest = c.args.rest.now in
    let e = put_more [] front _ c.put.new.bytes 0 refl refl c.put.ensures in
    let f = put_more front rest c.put.new.bytes c.put-2.new.bytes _ e refl c.put-2.ensures in
    record { fits = omega arith; padded = ap (drop _) f ∙ drop_padding (front ++ rest) _ (length-append front rest) }

pub returns : goal.returns
returns c =
    let front = c.args.front.now in
    let rest = c.args.rest.now in
    let e = put_more [] front _ c.put.new.bytes 0 refl refl c.put.ensures in
    let f = put_more front rest c.put.new.bytes c.put-2.new.bytes _ e refl c.put-2.ensures in
    pieces_some front rest _ (omega arith) (ap (take _) f ∙ take_padding (front ++ rest) _ (length-append front rest))
