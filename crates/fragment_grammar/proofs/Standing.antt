-- What a text stands for agrees with the grammar. Assumes nothing.
use Rattle.std.proofs.Common.{◌≡◌, ℕ, suc, List, ◌++◌, length, take, sym, refl, ap, subst, arith}
use Rattle.std.proofs.lemmas.List.{take-append-le, take-take, length-take-le}
use Rattle.interfaces.specs.Tasks.{Def, legal, illegal}
use Rattle.text.specs.declared.Text.{Text}
use Rattle.definitions.specs.Longest.{Longest}
use Rattle.definitions.proofs.Places.{one_place}
use Rattle.fragment_grammar.specs.Grammar.{Item, Reads, Legal}
use Rattle.fragment_grammar.specs.Meaning.{meaning}
use Rattle.fragment_grammar.specs.Reader.{Rows, row, astray, rows}
use Rattle.fragment_grammar.specs.Stands.{verdict, OneReading, StandsRight}
use Rattle.fragment_grammar.proofs.RowReading.{Strayed, RowRight, rows_right, reads_rows}

pub one_reading_lem : OneReading
one_reading_lem text items others r s = let a = reads_rows 0 r in let b = reads_rows 0 s in cc

-- where a text goes astray
strayed_longest : (text : List ℕ) (place : ℕ) → Strayed 0 text place → Longest Legal text place
strayed_longest text place k =
    let s = k.size in
    let e : place ≡ k.ran = omega arith in
    record {
      fits = let f = k.fits in omega arith;
      begins = record { rest = k.rest; legal = (k.items, subst (λ n. Reads (take n text ++ k.rest) k.items) (sym e) k.viable) };
      ends = λ n l h b.
          let lt = length-take-le n text h in
          let c = take-append-le (suc k.ran) (take n text) b.rest (omega arith) in
          let d = take-take (suc k.ran) n text (omega arith) in
          k.dead (take n text ++ b.rest) b.legal.0 b.legal.1 (cc);
      illegal = λ h. k.dead text h.0 h.1 refl;
    }

module _ (text : List ℕ) where
  row_longest : (r : Rows) → RowRight 0 text r → (place : ℕ) → verdict r ≡ illegal place → Longest Legal text place
  row_longest (row items) h place e = absurd (let z : ◌≡◌ {A = ℕ} 0 1 = cc in omega arith)
  row_longest (astray p) h place e = let q : p ≡ place = cc in subst (Longest Legal text) q (strayed_longest text p h)

  row_reads : (r : Rows) → RowRight 0 text r → (d : Def Text) → verdict r ≡ legal d → (items : List Item) × Reads text items × (d ≡ meaning items)
  row_reads (row items) h d e = (items, h, cc)
  row_reads (astray p) h d e = absurd (let z : ◌≡◌ {A = ℕ} 0 1 = cc in omega arith)

  row_illegal : (r : Rows) → RowRight 0 text r → (place : ℕ) → Longest Legal text place → verdict r ≡ illegal place
  row_illegal (row items) h place l = absurd (l.illegal (items, h))
  row_illegal (astray p) h place l = ap illegal (one_place Legal text p place (strayed_longest text p h) l)

pub stands_right_lem : StandsRight
stands_right_lem text =
    let h = rows_right (length text) 0 text (omega arith) in
    record {
      reads_legal = λ items r. ap verdict (reads_rows 0 r);
      legal_reads = row_reads text (rows 0 0 text) h;
      illegal_longest = row_longest text (rows 0 0 text) h;
      longest_illegal = row_illegal text (rows 0 0 text) h;
    }
