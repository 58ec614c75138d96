mod NodeLemmas
