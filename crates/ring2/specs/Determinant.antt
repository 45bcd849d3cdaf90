-- Determinants of two, three and four rows in characteristic two, as formulas over any operations. Assumes nothing.
use Rattle.ring2.specs.Ring.{Ops}

-- The entries are read row by row; there are no signs, since each element is its own negative.
module _ {K : Type 0} (o : Ops K) where
  abbrev pub det2 : K → K → K → K → K
  det2 a b c d = o.plus (o.times a d) (o.times b c)

  abbrev pub det3 : K → K → K → K → K → K → K → K → K → K
  det3 a b c d e f g h i =
      o.plus (o.times a (det2 e f h i)) (o.plus (o.times b (det2 d f g i)) (o.times c (det2 d e g h)))

  abbrev pub det4 : K → K → K → K → K → K → K → K → K → K → K → K → K → K → K → K → K
  det4 a b c d e f g h i j k l m n p q =
      o.plus (o.times a (det3 f g h j k l n p q)) (o.plus (o.times b (det3 e g h i k l m p q))
      (o.plus (o.times c (det3 e f h i j l m n q)) (o.times d (det3 e f g i j k m n p))))
