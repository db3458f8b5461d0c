-- Records of texts: their bytes, what a sound one means, and what is packed from a text and more. Assumes nothing of a record.
use Rattle.std.specs.Prelude.{◌≡◌, ℕ, ◌+◌, ◌-◌, ◌<◌, ◌≤◌, Bool, true, false, cond, ◌&&◌, leb, List, [], ◌++◌, length, take, drop, replicate, Some, None, ◌≢◌, nat_le, refl}
use Rattle.std.proofs.Common.{sym, ◌∙◌, arith, length-append, length-take, length-drop}
use Rattle.std.proofs.Math.Path.{ap}
use Rattle.std.proofs.lemmas.List.{take-append-drop, take_all, length-take-le}
use Rattle.std.proofs.lemmas.Bool.Decides.{nat_tests}
use Rattle.interfaces.specs.Printing.{padding}
use Rattle.text.specs.Text.{printable_bytes, only_zeros, bytes_of, text_bytes, sound_text, text_blank, text_canon, text_means, text_packed, text_of, text_extended}
use Rattle.text.specs.declared.Text.{Text}
use Rattle.text.specs.Every.{zeros_from_all}
use Rattle.text.specs.Words.{word_of_bytes_of}
use Rattle.interfaces.proofs.Zeros.{front_padding}

pub length_text_bytes : (t : Text) → length (text_bytes t) ≡ 32
unfolding bytes_of
length_text_bytes t = refl

same_fields : (s t : Text) → s.a ≡ t.a → s.b ≡ t.b → s.c ≡ t.c → s.d ≡ t.d → s.len ≡ t.len → s ≡ t
same_fields s t p q r u v = λ i. record { a = p i; b = q i; c = r i; d = u i; len = v i }

-- a record is packed from its own bytes
pub packed_bytes : (t : Text) → text_packed (text_bytes t) t.len ≡ t
unfolding bytes_of
packed_bytes t =
    same_fields (text_packed (text_bytes t) t.len) t (word_of_bytes_of 7 t.a) (word_of_bytes_of 7 t.b) (word_of_bytes_of 7 t.c)
    (word_of_bytes_of 7 t.d) refl

three : (x y z : Bool) → (x && (y && z)) ≡ true → (x ≡ true) × (y ≡ true) × (z ≡ true)
three x y z h = grind arith

-- what a sound record is
module _ (t : Text) where
  sound_parts : sound_text t ≡ true → (nat_le t.len 32 ≡ true) × (printable_bytes (take t.len (text_bytes t)) ≡ true) × (only_zeros (drop t.len (text_bytes t)) ≡ true)
  unfolding sound_text
  sound_parts h =
      three (nat_le t.len 32) (printable_bytes (take t.len (text_bytes t))) (only_zeros (drop t.len (text_bytes t))) h

  sound_short : sound_text t ≡ true → t.len ≤ 32
  sound_short h = let p = (sound_parts h).0 in grind (arith, nat_tests)

  sound_padded : sound_text t ≡ true → text_bytes t ≡ padding (take t.len (text_bytes t))
  sound_padded h =
      let z = zeros_from_all (drop t.len (text_bytes t)) (sound_parts h).2 in
      let l = length_text_bytes t in
      let s = sound_short h in
      let k : length (drop t.len (text_bytes t)) ≡ 32 - length (take t.len (text_bytes t)) =
      simp (length-drop, length-take) (omega arith) in
      sym (take-append-drop t.len (text_bytes t))
      ∙ ap (λ zs. take t.len (text_bytes t) ++ zs) (z ∙ ap (λ n. replicate n 0) k)

  pub sound_long : 32 < t.len → false ≡ sound_text t
  unfolding sound_text
  sound_long h = let e : false ≡ leb t.len 32 = grind (arith, nat_tests) in ap (λ x. x && (printable_bytes (take t.len (text_bytes t)) && only_zeros (drop t.len (text_bytes t)))) e

  pub sound_is : (p z : Bool) → t.len ≤ 32 → p ≡ printable_bytes (take t.len (text_bytes t)) → z ≡ only_zeros (drop t.len (text_bytes t)) → (p && z) ≡ sound_text t
  unfolding sound_text
  sound_is p z h e f =
      let l : true ≡ leb t.len 32 = grind (arith, nat_tests) in
      rw (e, f) (ap (λ x. x && (printable_bytes (take t.len (text_bytes t)) && only_zeros (drop t.len (text_bytes t)))) l)

  pub sound_from : t.len ≤ 32 → printable_bytes (take t.len (text_bytes t)) ≡ true → only_zeros (drop t.len (text_bytes t)) ≡ true → sound_text t ≡ true
  sound_from h p z = sym (sound_is true true h (sym p) (sym z))

  -- the same, over the parts of an array that holds the bytes
  pub sound_seen : (bs : List ℕ) (n : ℕ) (p z : Bool) → bs ≡ text_bytes t → n ≡ t.len → n ≤ 32 → p ≡ printable_bytes (take n bs) → z ≡ only_zeros (take (32 - n) (drop n bs)) → (p && z) ≡ sound_text t
  sound_seen bs n p z e m h q r =
      let l = length_text_bytes t in
      let d : take (32 - t.len) (drop t.len (text_bytes t)) ≡ drop t.len (text_bytes t) =
      take_all (32 - t.len) (drop t.len (text_bytes t)) (simp length-drop (omega arith)) in
      sound_is p z (omega arith) (rw (e, m) at q) ((rw (e, m) at r) ∙ ap only_zeros d)

-- what every record is: its normal form has the bytes that it means, with zeros behind them
pub record Form (t : Text) : Type 0 where
  pub padded : text_bytes (text_canon t) ≡ padding (text_means t)
  pub count : (text_canon t).len ≡ length (text_means t)
  pub short : length (text_means t) ≤ 32
  pub printable : printable_bytes (text_means t) ≡ true

form_true : (t : Text) → sound_text t ≡ true → Form t
form_true t h =
    let m : text_means t ≡ take t.len (text_bytes t) = ap (λ b. cond b (take t.len (text_bytes t)) []) h in
    let c : text_canon t ≡ t = ap (λ b. cond b t text_blank) h in
    let s = sound_short t h in
    let n : length (text_means t) ≡ t.len =
    ap length m ∙ length-take-le t.len (text_bytes t) (omega (arith, length_text_bytes t)) in
    record {
      padded = ap text_bytes c ∙ (sound_padded t h ∙ ap padding (sym m));
      count = ap (λ (u : Text). u.len) c ∙ sym n;
      short = omega arith;
      printable = ap printable_bytes m ∙ (sound_parts t h).1;
    }

form_false : (t : Text) → sound_text t ≡ false → Form t
unfolding bytes_of
form_false t h =
    let m : text_means t ≡ [] = ap (λ b. cond b (take t.len (text_bytes t)) []) h in
    let c : text_canon t ≡ text_blank = ap (λ b. cond b t text_blank) h in
    record {
      padded = ap text_bytes c ∙ ap padding (sym m);
      count = ap (λ (u : Text). u.len) c ∙ ap length (sym m);
      short = rw m (omega arith);
      printable = ap printable_bytes m;
    }

pub form : (t : Text) → Form t
form t = go (sound_text t) refl
  where
    go : (b : Bool) → sound_text t ≡ b → Form t
    go true h = form_true t h
    go false h = form_false t h

-- the normal form is the record of the text
pub canon_is : (t : Text) → text_canon t ≡ text_of (text_means t)
canon_is t =
    let f = form t in
    sym (packed_bytes (text_canon t)) ∙ (ap (λ bs. text_packed bs (text_canon t).len) f.padded ∙ ap (text_packed (padding (text_means t))) f.count)

pub same_text : (x y : Text) → text_means x ≡ text_means y → text_canon x ≡ text_canon y
same_text x y e = canon_is x ∙ (ap text_of e ∙ sym (canon_is y))

-- bytes that are no text
pub too_long : (bs : List ℕ) → 32 < length bs → (t : Text) → text_means t ≢ bs
too_long bs h t e = omega (arith, ap length e, (form t).short)

pub not_printable : (bs : List ℕ) → printable_bytes bs ≡ false → (t : Text) → text_means t ≢ bs
not_printable bs h t e = let z : true ≡ false = sym (form t).printable ∙ (ap printable_bytes e ∙ h) in grind arith

-- the record that is packed from a text and bytes behind it
pub packed_more : (t : Text) (bs more bytes both : List ℕ) (n : ℕ) → bytes ≡ padding bs → n ≡ length bs → both ≡ padding (take (n - 0) bytes ++ more) → t ≡ text_packed both (n + length more) → t ≡ text_of (bs ++ more)
packed_more t bs more bytes both n e l b p =
    let q : both ≡ padding (bs ++ more) = b ∙ ap (λ cs. padding (cs ++ more)) (front_padding bs bytes n e l) in
    let k : n + length more ≡ length (bs ++ more) = simp length-append (omega arith) in
    p ∙ (ap (λ cs. text_packed cs (n + length more)) q ∙ ap (text_packed (padding (bs ++ more))) k)

pub extended_some : (t u : Text) (more : List ℕ) → length (text_means t) + length more ≤ 32 → u ≡ text_of (text_means t ++ more) → Some u ≡ text_extended t more
extended_some t u more h e =
    let l : leb (length (text_means t) + length more) 32 ≡ true = grind (arith, nat_tests) in
    ap Some e ∙ sym (ap (λ b. cond b (Some (text_of (text_means t ++ more))) None) l)

pub extended_none : (t : Text) (more : List ℕ) → 32 < length (text_means t) + length more → None ≡ text_extended t more
extended_none t more h =
    let l : leb (length (text_means t) + length more) 32 ≡ false = grind (arith, nat_tests) in
    sym (ap (λ b. cond b (Some (text_of (text_means t ++ more))) None) l)
